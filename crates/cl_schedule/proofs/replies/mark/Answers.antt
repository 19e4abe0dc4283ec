use Rattle.std.proofs.Common.{Option, subst, sym}
use Rattle.cl_hierarchy.specs.Imposed.{Listed}
use Rattle.cl_registry.specs.Imposing.{Marks, MayMark}
use Rattle.cl_registry.specs.Refusals.{MarkRefusedFor}
use Rattle.cl_tasks.specs.Waits.{Marking}
use Rattle.cl_tasks.specs.declared.turn.Reply.{Reply}
use Rattle.cl_schedule.specs.Replies.{RepliesWhere}
use Rattle.cl_schedule.proofs.Calls.{did_mark, mark_answered}
use Rattle.cl_schedule.proofs.replies.mark.Goals as goal

pub returns-in-Ok-clause-did : goal.returns-in-Ok-clause-did
returns-in-Ok-clause-did g c =
    did_mark c.args.registry.now c.mark_prepared.new.self c.args.list.value.origin
    (subst (λ (l : Listed). Marks c.args.registry.now c.mark_prepared.new.self l) c.deref.ensures c.in-Ok.ensures.marked)

pub returns-clause-replied : goal.returns-clause-replied
returns-clause-replied g c =
    subst (λ (r : Option (Reply g.row.T.Denot)). RepliesWhere (MayMark c.args.registry.now c.args.list.value) c.mark_prepared.new.self (Marking c.args.list.value) r) (sym c.reply_of.ensures)
    (mark_answered g.row.T.Denot c.args.registry.now c.mark_prepared.new.self c.args.list.value c.in-Err.fault
    (subst (λ (l : Listed). MarkRefusedFor c.args.registry.now l c.in-Err.fault) c.deref.ensures c.in-Err.ensures.refused))
