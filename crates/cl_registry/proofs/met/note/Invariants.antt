use Rattle.cl_model.specs.States.{State, AllMet}
use Rattle.cl_hierarchy.specs.Imposed.{needs_of}
use Rattle.cl_registry.proofs.met.note.Given as goal

abbrev pub invariant-loop-at : goal.invariant-loop-at
invariant-loop-at l = (s : State) → AllMet s (needs_of l.fn.known.items) → AllMet s (needs_of l.known.items)
