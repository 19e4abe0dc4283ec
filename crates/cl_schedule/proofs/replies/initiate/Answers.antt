use Rattle.std.proofs.Common.{Option, subst, sym}
use Rattle.cl_delegation.specs.Searches.{Located}
use Rattle.cl_registry.specs.Refusals.{InitiateRefusedFor}
use Rattle.cl_registry.specs.Tables.{Initiates, MayJoin}
use Rattle.cl_tasks.specs.Waits.{Initiating}
use Rattle.cl_tasks.specs.declared.turn.Reply.{Reply}
use Rattle.cl_schedule.specs.Replies.{RepliesWhere}
use Rattle.cl_schedule.proofs.Calls.{did_initiate, initiate_answered}
use Rattle.cl_schedule.proofs.replies.initiate.Goals as goal

pub returns-in-Ok-clause-did : goal.returns-in-Ok-clause-did
returns-in-Ok-clause-did g c =
    did_initiate c.args.registry.now c.initiate.new.self c.args.home.value c.in-Ok.row.value
    (subst (λ (h : Located). Initiates c.args.registry.now c.initiate.new.self h c.in-Ok.row.value) c.deref.ensures c.in-Ok.ensures.initiated)

pub returns-clause-replied : goal.returns-clause-replied
returns-clause-replied g c =
    subst (λ (r : Option (Reply g.row.T.Denot)). RepliesWhere (MayJoin c.args.registry.now c.args.home.value) c.initiate.new.self (Initiating c.args.home.value) r) (sym c.reply_of.ensures)
    (initiate_answered g.row.T.Denot c.args.registry.now c.initiate.new.self c.args.home.value c.in-Err.fault
    (subst (λ (h : Located). InitiateRefusedFor c.args.registry.now h c.in-Err.fault) c.deref.ensures c.in-Err.ensures.refused) c.in-Err.ensures.unchanged)
