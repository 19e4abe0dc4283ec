use Rattle.std.proofs.Common.{Option, subst, sym}
use Rattle.cl_registry.specs.Settling.{FindingSettles}
use Rattle.cl_tasks.specs.Waits.{Settling}
use Rattle.cl_tasks.specs.declared.turn.Reply.{Reply}
use Rattle.cl_schedule.specs.Replies.{RepliesWhere}
use Rattle.cl_schedule.proofs.Calls.{did_settle, settled_entry, settle_answered}
use Rattle.cl_schedule.proofs.replies.settle.Goals as goal

pub returns-in-Ok-clause-replied : goal.returns-in-Ok-clause-replied
returns-in-Ok-clause-replied g c =
    let is = settled_entry c.settle-told.new.self c.args.finding.request c.in-Ok.settled.value c.in-Ok.ensures.shown in
    record { fits = is.fits; tells = is.tells; shows = tt }

pub returns-in-Ok-clause-did : goal.returns-in-Ok-clause-did
returns-in-Ok-clause-did g c = did_settle c.args.registry.now c.settle-told.new.self c.args.finding c.in-Ok.settled.value c.in-Ok.ensures.settles

pub returns-in-Err-clause-replied : goal.returns-in-Err-clause-replied
returns-in-Err-clause-replied g c =
    subst (λ (r : Option (Reply g.row.T.Denot)). RepliesWhere (FindingSettles c.args.registry.now c.args.finding) c.settle-told.new.self (Settling c.args.finding.request) r) (sym c.reply_of.ensures)
    (settle_answered g.row.T.Denot c.args.registry.now c.settle-told.new.self c.args.finding c.in-Err.fault c.in-Err.ensures.refused)
