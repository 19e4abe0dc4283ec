use Rattle.std.proofs.Common.{ap}
use Rattle.cl_registry.specs.Tables.{Shown}
use Rattle.cl_schedule.proofs.Rounds.{passing_none, passing_on, end_of_rounds, next_number, round_goes}
use Rattle.cl_schedule.proofs.serve.pass_rounds.Goals as goal

pub loop-init : goal.loop-init
loop-init g c = passing_none c.args.registry.now

pub loop-smaller : goal.loop-smaller
loop-smaller g c = next_number c.loop.registry c.next_round.new.self c.in-Ok.ensures.may c.in-Ok.ensures.begun

pub loop-preserved : goal.loop-preserved
loop-preserved g c =
    passing_on c.args.registry.now c.loop.registry c.next_round.new.self c.loop.invariant c.in-Ok.ensures.may
    (round_goes c.loop.registry c.next_round.new.self c.in-Ok.ensures.begun) (ap (λ (x : Shown). x.rows) c.in-Ok.ensures.begun)

pub returns-in-Err-clause-passed : goal.returns-in-Err-clause-passed
returns-in-Err-clause-passed g c = end_of_rounds c.args.registry.now c.loop.registry c.next_round.new.self c.in-Err.field-0 c.loop.invariant c.in-Err.ensures.unchanged c.in-Err.ensures.refused
