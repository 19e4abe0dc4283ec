-- What tables tell, in each state that they stand for (JVMS SE 8, 5.4.2).
use Rattle.std.specs.Prelude.{Bool, Contains}
use Rattle.cl_model.specs.declared.class.Class.{Class}
use Rattle.cl_model.specs.States.{State}
use Rattle.cl_constraints.specs.Books.{TellsOf}
use Rattle.cl_config.specs.Views.{Configured}
use Rattle.cl_findings.specs.Findings.{Answered, Stands}

-- the answer tells whether a class is prepared (5.4.2)
abbrev pub TellsPrepared : (State → Type 0) → Class → Bool → Type 0
TellsPrepared stands c answer = TellsOf stands answer (λ s. Contains s.prepared c)

-- the answer tells whether a finding stands under a configuration (5.3 to 5.4.3)
abbrev pub TellsStanding : (State → Type 0) → Configured → Answered → Bool → Type 0
TellsStanding stands c f answer = TellsOf stands answer (λ s. Stands c s f)
