use Rattle.std.proofs.Common.{◌≡◌, take}
use Rattle.cl_classfile.specs.Raw.{plain_entries}
use Rattle.cl_classfile.proofs.raw.borrowed_entries.Given as goal

abbrev pub invariant-loop-entry : goal.invariant-loop-entry
invariant-loop-entry l = plain_entries l.entries.items ≡ take l.entry-index l.pool
