use Rattle.std.proofs.Common.{◌-◌}
use Rattle.cl_schedule.proofs.Gathering.{Gathering}
use Rattle.cl_schedule.proofs.gather.gather.Given as goal

abbrev pub invariant-loop-next : goal.invariant-loop-next
invariant-loop-next l = Gathering l.script l.first l.waiting.items l.next

abbrev pub decreases-loop-next : goal.decreases-loop-next
decreases-loop-next l = l.count - l.next
