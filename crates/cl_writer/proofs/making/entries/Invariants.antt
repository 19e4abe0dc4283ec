use Rattle.std.proofs.Common.{◌≡◌, map, take}
use Rattle.cl_writer.specs.Described.{entry_of}
use Rattle.cl_writer.proofs.making.entries.Given as goal

abbrev pub invariant-loop-item : goal.invariant-loop-item
invariant-loop-item l = l.pool.items ≡ map (entry_of l.items) (take l.item-index l.named)
