use Rattle.std.proofs.Common.{List, [], ◌∷◌, sym, subst}
use Rattle.cl_model.specs.States.{State}
use Rattle.cl_model.specs.Machine.{Setting, Step, NextRound, Run, after}
use Rattle.cl_model.specs.Service.{PassesRounds}
use Rattle.cl_model.proofs.Pieces.{next_step_may, begun_is_run}
use Rattle.cl_model.proofs.laws.service_is_run.Goals as goal

pub returns-clause-step : goal.returns-clause-step
returns-clause-step c = next_step_may

pub returns-clause-run : goal.returns-clause-run
returns-clause-run c = begun_is_run

passed : (g : Setting) (s : State) (es : List Step) → PassesRounds g s es → Run g s es
passed g s [] h = tt
passed g s (e ∷ es) h = subst (λ (x : Step). Run g s (x ∷ es)) (sym h.0) (h.1, passed g (after s NextRound) es h.2)

pub returns-clause-rounds : goal.returns-clause-rounds
returns-clause-rounds c = passed
