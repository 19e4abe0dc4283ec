use Rattle.std.proofs.Common.{◌≡◌, Some, None, [], ◌∷◌, inl, refl, codes, arith}
use Rattle.cl_model.specs.States.{Verdict, Answer}
use Rattle.cl_model.specs.Examples.{app, plug}
use Rattle.cl_model.proofs.examples.steps_made_again.Goals as goal

settled : {a : Verdict} → Some a ≡ None → ⊥
settled e = cc

answered : {a : Answer} → Some a ≡ None → ⊥
answered e = cc

pub returns-clause-define : goal.returns-clause-define
returns-clause-define c h = h.may_add.unmet refl

pub returns-clause-initiate : goal.returns-clause-initiate
returns-clause-initiate c h = h.may_add.unmet refl

pub returns-clause-constrain : goal.returns-clause-constrain
returns-clause-constrain c h = h.may_add.unmet (record { path = plug ∷ []; along = (record { equality = record { name = codes "p/T"; one = app; other = plug }; imposed = (0, omega arith, refl); named = refl; ends = inl (refl, refl) }, refl) })

pub returns-clause-settle : goal.returns-clause-settle
returns-clause-settle c h = settled h.may_keep.unsettled

pub returns-clause-prepare : goal.returns-clause-prepare
returns-clause-prepare c h = h.unprepared (2, omega arith, refl)

pub returns-clause-answer : goal.returns-clause-answer
returns-clause-answer c h = answered h.unposted
