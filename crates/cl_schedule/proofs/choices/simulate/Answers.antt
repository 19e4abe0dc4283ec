use Rattle.std.proofs.Common.{◌∙◌, subst, sym}
use Rattle.cl_registry.specs.Tables.{Shown}
use Rattle.cl_schedule.specs.Blames.{EachBlames}
use Rattle.cl_schedule.specs.Choices.{PlayedAs}
use Rattle.cl_schedule.proofs.Ended.{is_served}
use Rattle.cl_schedule.proofs.Owing.{counts_faults, none_unfinished}
use Rattle.cl_schedule.proofs.Playing.{played_as}
use Rattle.cl_schedule.proofs.Serving.{report_tells}
use Rattle.cl_schedule.proofs.choices.simulate.Goals as goal

pub unreachable-requires : goal.unreachable-requires
unreachable-requires g c =
    let e = c.in_default.ensures in
    none_unfinished g.T.Told.told c.args.config.value c.deref.result.now c.play_all-played.new.registry c.play_all-played.new.room e.serves.serves e.over c.in-Err-into_report.ensures.refused.1

pub returns-clause-simulated : goal.returns-clause-simulated
returns-clause-simulated g c =
    let told = g.T.Told.told in
    let e = c.in_default.ensures in
    let serves = e.serves.serves in
    let x = c.play_all-played.new.registry in
    let whole = c.in-Ok.ensures.reported.whole in
    record {
      served = is_served told x c.args.config.value c.args.script.value c.in-Ok.report c.in-Ok.ensures.reported (sym serves.configured) (sym (serves.scripted ∙ c.deref.ensures));
      played =
          subst (λ (y : Shown). PlayedAs told y c.args.schedule.now) (report_tells x c.in-Ok.report c.args.config.value whole serves.configured)
          (played_as told x c.args.schedule.now e.played);
      blames = subst (EachBlames told) (report_tells x c.in-Ok.report c.args.config.value whole serves.configured) serves.blames;
    }

pub returns-clause-source_faults : goal.returns-clause-source_faults
returns-clause-source_faults g c =
    let e = c.in_default.ensures in
    counts_faults g.T.Told.told c.args.config.value c.deref.result.now c.in_ok-registry.registry c.play_all-played.new.registry c.in_ok-registry.room c.play_all-played.new.room c.in-Ok.report _ _
    c.in_ok-registry.ensures.opened.none_owed e.serves e.over c.in-Ok.ensures.reported.whole
