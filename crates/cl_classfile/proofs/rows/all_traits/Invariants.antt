use Rattle.std.proofs.Common.{◌≡◌, map, take}
use Rattle.cl_classfile.specs.Rows.{entry_traits}
use Rattle.cl_classfile.specs.Raw.{plain_entries}
use Rattle.cl_classfile.proofs.rows.all_traits.Given as goal

abbrev pub invariant-loop-entry : goal.invariant-loop-entry
invariant-loop-entry l = l.traits.items ≡ map entry_traits (plain_entries (take l.entry-index l.pool))
