use Rattle.std.proofs.Common.{◌≡◌, ◌++◌, take}
use Rattle.std.specs.List.{flat_map}
use Rattle.cl_config.specs.Flat.{flat_item}
use Rattle.cl_config.proofs.flat.put_list.Given as goal

abbrev pub invariant-loop-item : goal.invariant-loop-item
invariant-loop-item g l = l.text.items ≡ l.initial.text.items ++ flat_map (flat_item g.T.Flat.flat) (take l.item-index l.items)
