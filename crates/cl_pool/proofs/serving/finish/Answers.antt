use Rattle.std.proofs.Common.{subst, sym}
use Rattle.cl_schedule.proofs.Ended.{is_served}
use Rattle.cl_schedule.proofs.Rounds.{none_goes_on}
use Rattle.cl_pool.specs.Served.{IsUnanswered}
use Rattle.cl_pool.proofs.Ended.{is_unanswered}
use Rattle.cl_pool.proofs.serving.finish.Goals as goal

pub returns-in-Ok-clause-served : goal.returns-in-Ok-clause-served
returns-in-Ok-clause-served g c =
    is_served g.T.Told.told c.pass_rounds.new.self.registry c.args.config.now c.args.script.now c.in-Ok.report_and_rows.0 c.in-Ok.ensures.reported
    c.if-not-serves.ensures.0 c.if-not-serves.ensures.1

pub returns-in-Ok-clause-rows : goal.returns-in-Ok-clause-rows
returns-in-Ok-clause-rows g c = record {
  registry = c.pass_rounds.new.self.registry;
  reported = c.in-Ok.ensures.reported;
  rows_are = sym c.in-Ok.ensures.rows;
}

pub returns-in-Err-clause-refused : goal.returns-in-Err-clause-refused
returns-in-Err-clause-refused g c =
    subst (IsUnanswered c.args.config.now c.args.script.now) (sym c.in-Err.ensures.refused.0)
    (is_unanswered c.pass_rounds.new.self.registry c.args.config.now c.args.script.now c.pass_rounds.ensures.kept.trusted
    (none_goes_on c.args.desk.registry c.pass_rounds.new.self.registry c.pass_rounds.ensures.passed) c.in-Err.ensures.refused.1 c.if-not-serves.ensures.0 c.if-not-serves.ensures.1)
