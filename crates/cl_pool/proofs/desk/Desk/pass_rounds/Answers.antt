use Rattle.std.proofs.Common.{ap}
use Rattle.cl_registry.specs.Tables.{Shown}
use Rattle.cl_schedule.proofs.Rounds.{passing_none, passing_on, end_of_rounds, next_number, round_goes}
use Rattle.cl_pool.proofs.desk.Desk.pass_rounds.Goals as goal

pub loop-round-init : goal.loop-round-init
loop-round-init g c = passing_none c.args.self.now.registry

pub loop-round-smaller : goal.loop-round-smaller
loop-round-smaller g c = next_number c.loop-round.self.registry c.next_round.new.self c.in-Ok.ensures.may c.in-Ok.ensures.begun

pub loop-round-preserved : goal.loop-round-preserved
loop-round-preserved g c =
    passing_on c.args.self.now.registry c.loop-round.self.registry c.next_round.new.self c.loop-round.invariant c.in-Ok.ensures.may
    (round_goes c.loop-round.self.registry c.next_round.new.self c.in-Ok.ensures.begun) (ap (λ (x : Shown). x.rows) c.in-Ok.ensures.begun)

pub returns-in-Err-clause-passed : goal.returns-in-Err-clause-passed
returns-in-Err-clause-passed g c = end_of_rounds c.args.self.now.registry c.loop-round.self.registry c.next_round.new.self c.in-Err.field-0 c.loop-round.invariant c.in-Err.ensures.unchanged c.in-Err.ensures.refused
