use Rattle.std.proofs.Common.{subst}
use Rattle.cl_hierarchy.specs.Drafts.{Drafted, IsDraft}
use Rattle.cl_tasks.proofs.LoadSteps.{need_is, steps_define_refused, steps_defined}
use Rattle.cl_tasks.proofs.load_replies.after_define.Goals as goal

pub returns-in-Defined : goal.returns-in-Defined
returns-in-Defined g c =
    rw c.in-Defined.is
    (steps_defined g.T.Told.told c.args.config.now.value c.args.job c.args.whole c.in-Defined.row _ c.requires.job.config c.requires.whole (subst (λ (d : Drafted). IsDraft g.T.Told.told d) c.draft.ensures c.home.ensures.draft) c.take_defined.ensures.leads c.take_defined.ensures.plain c.take_defined.ensures.derives c.requires.job.for_request c.take_defined.ensures.own)

pub returns-in-Refused : goal.returns-in-Refused
returns-in-Refused g c =
    let expects = rw c.in-Refused.is at c.requires.expects in
    rw c.in-Refused.is
    (steps_define_refused g.T.Told.told c.args.config.now.value c.args.job c.args.whole c.in-Refused.need _ c.requires.job.config (need_is expects) c.refuse.ensures.leads c.refuse.ensures.plain c.refuse.ensures.ends c.refuse.ensures.past c.refuse.ensures.lacks)
