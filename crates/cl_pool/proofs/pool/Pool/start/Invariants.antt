use Rattle.std.proofs.Common.{◌<◌}
use Rattle.cl_pool.specs.Seats.{IsSeatOf, MayDraw}
use Rattle.cl_pool.proofs.pool.Pool.start.Given as goal

abbrev pub invariant-loop : goal.invariant-loop
invariant-loop g l = IsSeatOf l.self.draws l.seat × MayDraw l.seat × (l.started < l.counter)
