use Rattle.std.proofs.Common.{◌≡◌, ◌+◌, ◌-◌, vec_len}
use Rattle.cl_source.specs.Shelves.{content_from}
use Rattle.cl_source.proofs.memory.make_room.Given as goal

abbrev pub invariant-loop-alloc : goal.invariant-loop-alloc
invariant-loop-alloc l = content_from 0 l.shelves.items ≡ content_from 0 l.initial.shelves.items

abbrev pub decreases-loop-alloc : goal.decreases-loop-alloc
decreases-loop-alloc l = l.place + 1 - vec_len l.shelves
