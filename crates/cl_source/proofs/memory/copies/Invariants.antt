use Rattle.std.proofs.Common.{◌≡◌, take}
use Rattle.cl_source.proofs.memory.copies.Given as goal

abbrev pub invariant-loop-shelf : goal.invariant-loop-shelf
invariant-loop-shelf l = l.copies.items ≡ take l.shelf-index l.shelves
