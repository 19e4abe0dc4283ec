use Rattle.std.proofs.Common.{◌≡◌, take}
use Rattle.std.specs.Arc.{arc_slice_items}
use Rattle.cl_classfile.specs.Raw.{plain_entries}
use Rattle.cl_classfile.proofs.Sharing.{AreFrom}
use Rattle.cl_classfile.proofs.raw.owned_entries.Given as goal

abbrev pub invariant-loop-i : goal.invariant-loop-i
invariant-loop-i l = record {
  made : l.entries.items ≡ plain_entries (take l.i l.pool);
  left : AreFrom l.start (arc_slice_items l.shared) l.pool l.i;
}
