use Rattle.cl_tasks.proofs.MemberLeads.{inaccessible_leads}
use Rattle.cl_tasks.proofs.member.refuse_access.Goals as goal

pub returns-in-Ok-Ok-clause-leads : goal.returns-in-Ok-Ok-clause-leads
returns-in-Ok-Ok-clause-leads g c =
    rw c.settle.ensures
    (inaccessible_leads g.T.Told.told c.args.config.now.value c.args.entry c.in-Ok-Ok.kept c.args.own.now c.args.named.now c.in-Ok-Ok.end c.class_entry-finding.result c.requires.entry c.requires.own c.in-Ok-Ok.ensures c.in-Ok-Ok.ensures'
    c.class_entry-finding.ensures c.answer.ensures.rests)
