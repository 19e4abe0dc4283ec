use Rattle.cl_tasks.proofs.Lacking.{resolution_is}
use Rattle.cl_tasks.proofs.MemberSteps.{imposed_steps, refused_steps}
use Rattle.cl_tasks.proofs.resolution_replies.after_impose.Goals as goal

pub returns-in-Imposed : goal.returns-in-Imposed
returns-in-Imposed g c =
    rw c.in-Imposed.is (imposed_steps g.T.Told.told c.args.config.now.value c.args.member c.args.place c.impose.result c.requires.within c.impose.ensures.leads c.impose.ensures.plain c.impose.ensures.past)

pub returns-in-Refused : goal.returns-in-Refused
returns-in-Refused g c =
    rw c.in-Refused.is
    (refused_steps g.T.Told.told c.args.config.now.value c.args.member c.args.place c.in-Refused.need c.refuse_member.result c.requires.within c.refuse_member.ensures.leads c.refuse_member.ensures.plain c.refuse_member.ensures.past
    c.refuse_member.ensures.ends (resolution_is _ _ _ _ c.requires.member.entry.of))
