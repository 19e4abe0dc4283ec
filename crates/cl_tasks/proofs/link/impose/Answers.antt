use Rattle.cl_tasks.proofs.PreparationLeads.{skipped_leads}
use Rattle.cl_tasks.proofs.link.impose.Goals as goal

pub returns-clause-leads : goal.returns-clause-leads
returns-clause-leads g c =
    skipped_leads g.T.Told.told c.args.config.now.value c.args.chain c.args.list.value c.args.place c.next_of_two-next.result c.requires.list c.next_of_two-next.ensures.behind (rw c.deref.ensures at c.next_of_two-next.ensures.met)
    c.impose_at.ensures.leads
