use Rattle.std.proofs.Common.{◌≡◌, take, fold}
use Rattle.std.specs.List.{flat_map}
use Rattle.cl_writer.specs.Items.{with_item, class_wanted}
use Rattle.cl_writer.proofs.items.with_classes.Given as goal

abbrev pub invariant-loop-name : goal.invariant-loop-name
invariant-loop-name l = l.items ≡ fold with_item l.initial.items (flat_map class_wanted (take l.name-index l.names))
