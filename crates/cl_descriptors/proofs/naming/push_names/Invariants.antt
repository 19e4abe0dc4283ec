use Rattle.std.proofs.Common.{◌≡◌, ◌++◌, filter_map, take}
use Rattle.cl_descriptors.specs.Types.{class_of}
use Rattle.cl_descriptors.proofs.naming.push_names.Given as goal

abbrev pub invariant-loop-t : goal.invariant-loop-t
invariant-loop-t l = l.names.items ≡ l.fn.names.items ++ filter_map class_of (take l.t-index l.types)
