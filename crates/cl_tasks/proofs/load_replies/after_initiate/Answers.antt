use Rattle.cl_tasks.proofs.LoadSteps.{need_is, steps_initiate_refused, steps_initiated}
use Rattle.cl_tasks.proofs.load_replies.after_initiate.Goals as goal

pub returns-in-Initiated : goal.returns-in-Initiated
returns-in-Initiated g c =
    rw c.in-Initiated.is
    (steps_initiated g.T.Told.told c.args.config.now.value c.args.job c.args.home c.in-Initiated.row _ c.requires.job.config c.requires.next.0 c.go_on.ensures.leads c.go_on.ensures.plain c.go_on.ensures.derives c.go_on.ensures.own)

pub returns-in-Refused : goal.returns-in-Refused
returns-in-Refused g c =
    let expects = rw c.in-Refused.is at c.requires.expects in
    rw c.in-Refused.is
    (steps_initiate_refused g.T.Told.told c.args.config.now.value c.args.job c.args.home c.in-Refused.need _ c.requires.job.config (need_is expects) c.refuse.ensures.leads c.refuse.ensures.plain c.refuse.ensures.ends c.refuse.ensures.past c.refuse.ensures.lacks)
