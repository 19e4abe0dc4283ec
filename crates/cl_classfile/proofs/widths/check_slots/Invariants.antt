use Rattle.cl_classfile.specs.Raw.{plain_entries}
use Rattle.cl_classfile.proofs.Slots.{AreSeen}
use Rattle.cl_classfile.proofs.widths.check_slots.Given as goal

abbrev pub invariant-loop-i : goal.invariant-loop-i
invariant-loop-i l = AreSeen (plain_entries l.pool) l.i l.taken
