use Rattle.std.proofs.Common.{◌≡◌, map, take}
use Rattle.cl_writer.specs.declared.item.Item.TheVariants.{Class}
use Rattle.cl_writer.specs.Items.{index}
use Rattle.cl_writer.proofs.making.class_indices.Given as goal

abbrev pub invariant-loop-name : goal.invariant-loop-name
invariant-loop-name l = l.indices.items ≡ map (λ n. index l.items (Class n)) (take l.name-index l.names)
