use Rattle.std.proofs.Common.{Option, subst, sym}
use Rattle.cl_model.specs.States.{IsRecorded}
use Rattle.cl_registry.specs.Tables.{state_of}
use Rattle.cl_tasks.specs.Waits.{Tracing}
use Rattle.cl_tasks.specs.declared.turn.Reply.{Reply}
use Rattle.cl_schedule.specs.Replies.{RepliesWhere}
use Rattle.cl_schedule.proofs.Calls.{lineage_answered}
use Rattle.cl_schedule.proofs.replies.lineage.Goals as goal

pub returns-in-Err-clause-replied : goal.returns-in-Err-clause-replied
returns-in-Err-clause-replied g c =
    subst (λ (r : Option (Reply g.row.T.Denot)). RepliesWhere (IsRecorded (state_of c.args.registry.now) c.args.class.now) c.args.registry.now (Tracing c.args.class.now) r) (sym c.reply_of.ensures)
    (lineage_answered g.row.T.Denot c.args.registry.now c.args.class.now c.in-Err.fault c.in-Err.ensures.refused)
