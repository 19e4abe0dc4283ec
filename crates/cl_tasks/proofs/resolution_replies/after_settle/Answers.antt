use Rattle.cl_tasks.proofs.MemberSteps.{settled_steps}
use Rattle.cl_tasks.proofs.resolution_replies.after_settle.Goals as goal

pub returns-in-Settled : goal.returns-in-Settled
returns-in-Settled g c = rw (c.in-Settled.is, c.post.ensures, c.settled.ensures) (settled_steps g.T.Told.told c.args.config.now.value c.args.entry c.in-Settled.settled c.requires.entry)
