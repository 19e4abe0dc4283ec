use Rattle.std.proofs.Common.{◌≡◌, ◌+◌, drop}
use Rattle.cl_classfile.specs.Raw.{plain_entries}
use Rattle.cl_classfile.specs.Checking.{checked_entries}
use Rattle.cl_classfile.proofs.rows.check_entries.Given as goal

abbrev pub invariant-loop-i : goal.invariant-loop-i
invariant-loop-i l = checked_entries l.major (plain_entries l.pool) (l.i + 1) (drop l.i (plain_entries l.pool)) ≡ checked_entries l.major (plain_entries l.pool) 1 (plain_entries l.pool)
