use Rattle.std.proofs.Common.{Option, subst, sym}
use Rattle.cl_hierarchy.specs.Imposed.{Listed}
use Rattle.cl_registry.specs.Imposing.{Imposes, MayImpose}
use Rattle.cl_registry.specs.Refusals.{ImposeRefusedFor}
use Rattle.cl_tasks.specs.Waits.{Imposing}
use Rattle.cl_tasks.specs.declared.turn.Reply.{Reply}
use Rattle.cl_schedule.specs.Replies.{RepliesWhere}
use Rattle.cl_schedule.proofs.Calls.{did_impose, impose_answered}
use Rattle.cl_schedule.proofs.replies.impose_allowed.Goals as goal

pub returns-in-Ok-clause-did : goal.returns-in-Ok-clause-did
returns-in-Ok-clause-did g c =
    did_impose c.args.registry.now c.impose_allowed.new.self c.args.list.value c.args.place c.requires
    (subst (λ (l : Listed). Imposes c.args.registry.now c.impose_allowed.new.self l c.args.place) c.deref.ensures c.in-Ok.ensures.says.imposed)

pub returns-in-Some-clause-replied : goal.returns-in-Some-clause-replied
returns-in-Some-clause-replied g c =
    subst (λ (r : Option (Reply g.row.T.Denot)). RepliesWhere (MayImpose c.args.registry.now c.args.list.value c.args.place) c.impose_allowed.new.self (Imposing c.args.list.value c.args.place) r) (sym c.in-Some.ensures)
    (impose_answered g.row.T.Denot c.args.registry.now c.impose_allowed.new.self c.args.list.value c.args.place c.in-Err.fault
    (subst (λ (l : Listed). ImposeRefusedFor c.args.registry.now l c.args.place c.in-Err.fault) c.deref.ensures c.in-Err.ensures.says.refused) c.in-Err.ensures.says.unchanged)
