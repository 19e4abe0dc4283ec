use Rattle.std.proofs.Common.{◌≡◌, ◌-◌, ◌+◌}
use Rattle.cl_classfile.specs.Raw.{plain_entries}
use Rattle.cl_classfile.specs.Reading.{many_at, slot_at, next_place, entries_at}
use Rattle.cl_classfile.proofs.Loop.{with_front}
use Rattle.cl_classfile.proofs.pool.entries_at.Given as goal

abbrev pub invariant-loop-i : goal.invariant-loop-i
invariant-loop-i l = with_front (plain_entries l.entries.items) (many_at (slot_at l.count) next_place (l.count - l.i) (l.i + 1, l.taken) l.rest) ≡ entries_at l.count l.bytes
