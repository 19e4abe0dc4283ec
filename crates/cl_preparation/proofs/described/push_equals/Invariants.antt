use Rattle.std.proofs.Common.{◌≡◌, ◌++◌, take}
use Rattle.cl_model.specs.Preparation.{equals_of}
use Rattle.cl_hierarchy.specs.Imposed.{needs_of}
use Rattle.cl_preparation.proofs.described.push_equals.Given as goal

abbrev pub invariant-loop-name : goal.invariant-loop-name
invariant-loop-name l = needs_of l.needs.items ≡ needs_of l.initial.needs.items ++ take l.name-index (equals_of l.method l.a l.b)
