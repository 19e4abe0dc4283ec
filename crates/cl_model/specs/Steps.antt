-- Kinds of steps of the machine (JVMS SE 8, 5.3 to 5.4.3).
use Rattle.cl_model.specs.Machine.{Step, Define, Initiate, Constrain, Settle, Prepare, Post, NextRound, Stray}

-- a step that a request's service may make: it fulfils a want or settles a reference, and is no post and no round
abbrev pub IsOfService : Step → Type 0
IsOfService (Define c) = Unit {0}
IsOfService (Initiate name place loader) = Unit {0}
IsOfService (Constrain name one other) = Unit {0}
IsOfService (Settle c i v) = Unit {0}
IsOfService (Prepare c) = Unit {0}
IsOfService (Post q a) = ⊥
IsOfService NextRound = ⊥
IsOfService Stray = ⊥
