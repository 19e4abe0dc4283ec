use Rattle.std.proofs.Common.{Option, subst, sym}
use Rattle.cl_registry.specs.Tables.{MayEnter}
use Rattle.cl_tasks.specs.Waits.{Defining}
use Rattle.cl_tasks.specs.declared.turn.Reply.{Reply}
use Rattle.cl_schedule.specs.Replies.{RepliesWhere}
use Rattle.cl_schedule.proofs.Calls.{did_define, define_answered}
use Rattle.cl_schedule.proofs.replies.define.Goals as goal

pub returns-in-Ok-clause-did : goal.returns-in-Ok-clause-did
returns-in-Ok-clause-did g c = did_define c.args.registry.now c.define.new.self c.args.draft c.in-Ok.row.value c.in-Ok.ensures.defined

pub returns-in-Err-clause-replied : goal.returns-in-Err-clause-replied
returns-in-Err-clause-replied g c =
    subst (λ (r : Option (Reply g.row.T.Denot)). RepliesWhere (MayEnter c.args.registry.now c.args.draft) c.define.new.self (Defining c.args.draft) r) (sym c.reply_of.ensures)
    (define_answered g.row.T.Denot c.args.registry.now c.define.new.self c.args.draft _ c.in-Err.ensures.refused c.in-Err.ensures.unchanged.0)
