use Rattle.cl_tasks.proofs.MemberSteps.{named_steps}
use Rattle.cl_tasks.proofs.resolution_replies.after_named_lineage.Goals as goal

pub returns-in-Lineage : goal.returns-in-Lineage
returns-in-Lineage g c =
    let expects = rw c.in-Lineage.is at c.requires.expects in
    rw c.in-Lineage.is (named_steps g.T.Told.told c.args.config.now.value c.args.entry c.args.own c.args.named c.in-Lineage.lineage c.take_class.result expects.class c.take_class.ensures.leads c.take_class.ensures.plain c.take_class.ensures.past)
