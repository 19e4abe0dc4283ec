use Rattle.std.proofs.Common.{◌≡◌, take, fold}
use Rattle.std.specs.List.{flat_map}
use Rattle.cl_writer.specs.Items.{with_item, wanted_items}
use Rattle.cl_writer.proofs.items.with_all.Given as goal

abbrev pub invariant-loop-item : goal.invariant-loop-item
invariant-loop-item l = l.items ≡ fold with_item l.initial.items (flat_map wanted_items (take l.item-index l.named))
