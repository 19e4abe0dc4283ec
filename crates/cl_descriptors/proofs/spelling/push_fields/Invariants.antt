use Rattle.std.proofs.Common.{◌≡◌, ◌++◌, flat_map, take}
use Rattle.cl_descriptors.specs.Types.{spelling_of_field}
use Rattle.cl_descriptors.proofs.spelling.push_fields.Given as goal

abbrev pub invariant-loop-t : goal.invariant-loop-t
invariant-loop-t l = l.text.items ≡ l.fn.text.items ++ flat_map spelling_of_field (take l.t-index l.types)
