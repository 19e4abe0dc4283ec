use Rattle.std.proofs.Common.{Option, subst, sym}
use Rattle.cl_hierarchy.specs.Imposed.{Listed}
use Rattle.cl_registry.specs.Imposing.{Imposes, MayImpose}
use Rattle.cl_registry.specs.Refusals.{ImposeRefusedFor}
use Rattle.cl_tasks.specs.Waits.{Imposing}
use Rattle.cl_tasks.specs.declared.turn.Reply.{Reply}
use Rattle.cl_schedule.specs.Replies.{RepliesWhere}
use Rattle.cl_schedule.proofs.Calls.{did_impose, impose_answered}
use Rattle.cl_schedule.proofs.replies.impose.Goals as goal

pub returns-in-Ok-clause-did : goal.returns-in-Ok-clause-did
returns-in-Ok-clause-did g c =
    did_impose c.args.registry.now c.impose.new.self c.args.list.value c.args.place
    (subst (λ (l : Listed). MayImpose c.args.registry.now l c.args.place) c.deref.ensures c.in-Ok.ensures.may)
    (subst (λ (l : Listed). Imposes c.args.registry.now c.impose.new.self l c.args.place) c.deref.ensures c.in-Ok.ensures.says.imposed)

pub returns-clause-replied : goal.returns-clause-replied
returns-clause-replied g c =
    subst (λ (r : Option (Reply g.row.T.Denot)). RepliesWhere (MayImpose c.args.registry.now c.args.list.value c.args.place) c.impose.new.self (Imposing c.args.list.value c.args.place) r) (sym c.reply_of.ensures)
    (impose_answered g.row.T.Denot c.args.registry.now c.impose.new.self c.args.list.value c.args.place c.in-Err.fault
    (subst (λ (l : Listed). ImposeRefusedFor c.args.registry.now l c.args.place c.in-Err.fault) c.deref.ensures c.in-Err.ensures.says.refused) c.in-Err.ensures.says.unchanged)
