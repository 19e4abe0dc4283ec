use Rattle.std.proofs.Common.{◌≡◌, ◌++◌, take}
use Rattle.cl_writer.proofs.items.with_references.Given as goal

abbrev pub invariant-loop-item : goal.invariant-loop-item
invariant-loop-item l = l.items ≡ l.initial.items ++ take l.item-index l.named
