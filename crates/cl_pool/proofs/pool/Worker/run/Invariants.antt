use Rattle.std.specs.Prelude.{◌<◌, IfSome}
use Rattle.cl_pool.specs.Seats.{IsSeatOf, MayDraw}
use Rattle.cl_pool.proofs.pool.Worker.run.Given as goal

abbrev pub invariant-loop : goal.invariant-loop
invariant-loop g l = IsSeatOf l.pool.draws l.seat × IfSome l.next (λ n. MayDraw l.seat × (n < l.pool.draws.of.requests))
