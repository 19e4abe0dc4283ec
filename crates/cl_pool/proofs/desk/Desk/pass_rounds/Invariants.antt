use Rattle.std.proofs.Common.{◌-◌}
use Rattle.cl_registry.specs.Tables.{round_of}
use Rattle.cl_schedule.proofs.Rounds.{Passing}
use Rattle.cl_pool.proofs.desk.Desk.pass_rounds.Given as goal

abbrev pub invariant-loop-round : goal.invariant-loop-round
invariant-loop-round g l = Passing l.fn.self.registry l.self.registry

abbrev pub decreases-loop-round : goal.decreases-loop-round
decreases-loop-round g l = l.self.registry.script.rounds - round_of l.self.registry
