use Rattle.cl_tasks.proofs.MemberSteps.{own_steps}
use Rattle.cl_tasks.proofs.resolution_replies.after_own_lineage.Goals as goal

pub returns-in-Lineage : goal.returns-in-Lineage
returns-in-Lineage g c =
    rw c.in-Lineage.is (own_steps g.T.Told.told c.args.config.now.value c.args.entry c.args.named c.in-Lineage.own c.take_own.result c.take_own.ensures.leads c.take_own.ensures.plain c.take_own.ensures.past)
