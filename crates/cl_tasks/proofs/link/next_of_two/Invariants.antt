use Rattle.std.specs.Prelude.{take}
use Rattle.cl_hierarchy.specs.Imposed.{needs_of}
use Rattle.cl_model.specs.States.{AllMet, State}
use Rattle.cl_tasks.proofs.link.next_of_two.Given as goal

abbrev pub invariant-loop-at : goal.invariant-loop-at
invariant-loop-at g l = (s : State) → AllMet s (take l.place (needs_of l.needs)) → AllMet s (take l.at (needs_of l.needs))
