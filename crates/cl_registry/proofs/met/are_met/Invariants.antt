use Rattle.std.proofs.Common.{take}
use Rattle.cl_model.specs.States.{State, AllMet}
use Rattle.cl_hierarchy.specs.Imposed.{needs_of}
use Rattle.cl_registry.specs.Imposing.{StandsWith}
use Rattle.cl_registry.proofs.met.are_met.Given as goal

abbrev pub invariant-loop-place : goal.invariant-loop-place
invariant-loop-place g l = (s : State) → StandsWith (g.B.ConstraintBook.stands_for l.book) l.known s → AllMet s (needs_of (take l.place l.equalities))
