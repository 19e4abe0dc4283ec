use Rattle.cl_tasks.proofs.MemberLeads.{found_leads}
use Rattle.cl_tasks.proofs.member.settle_member.Goals as goal

pub returns-in-Ok-Ok-clause-leads : goal.returns-in-Ok-Ok-clause-leads
returns-in-Ok-Ok-clause-leads g c =
    rw c.settle.ensures
    (found_leads g.T.Told.told c.args.config.now.value c.args.member c.in-Ok-Ok.kept c.member-finding.result c.in-Ok-Ok.verdict c.requires.member c.in-Ok-Ok.ensures c.member-finding.ensures
    c.answer.ensures.rests c.index.ensures.kept c.in-Ok-Ok.ensures')
