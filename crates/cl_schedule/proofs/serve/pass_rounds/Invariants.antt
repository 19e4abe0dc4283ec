use Rattle.std.proofs.Common.{◌-◌}
use Rattle.cl_registry.specs.Tables.{round_of}
use Rattle.cl_schedule.proofs.Rounds.{Passing}
use Rattle.cl_schedule.proofs.serve.pass_rounds.Given as goal

abbrev pub invariant-loop : goal.invariant-loop
invariant-loop g l = Passing l.fn.registry l.registry

abbrev pub decreases-loop : goal.decreases-loop
decreases-loop g l = l.registry.script.rounds - round_of l.registry
