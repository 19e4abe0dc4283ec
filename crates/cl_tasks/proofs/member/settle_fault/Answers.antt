use Rattle.cl_tasks.proofs.MemberLeads.{fault_leads}
use Rattle.cl_tasks.proofs.member.settle_fault.Goals as goal

pub returns-in-Ok-Ok-clause-leads : goal.returns-in-Ok-Ok-clause-leads
returns-in-Ok-Ok-clause-leads g c =
    let error = rw c.class.ensures.class at c.in-Ok-Ok.ensures' in
    rw c.settle.ensures
    (fault_leads g.T.Told.told c.args.config.now.value c.args.entry c.in-Ok-Ok.kept c.args.own c.args.named c.args.fault c.member_fault-finding.result c.in-Ok-Ok.verdict c.requires.entry c.requires.own c.in-Ok-Ok.ensures error
    c.requires.lookup.denied c.member_fault-finding.ensures c.answer.ensures.rests)
