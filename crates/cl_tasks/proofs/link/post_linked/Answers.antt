use Rattle.cl_tasks.proofs.LinkLeads.{linked_leads}
use Rattle.cl_tasks.proofs.link.post_linked.Goals as goal

pub returns-clause-leads : goal.returns-clause-leads
returns-clause-leads g c =
    let is = rw (c.class.ensures.class, c.deref.ensures) at c.in-Ok.ensures in
    rw (c.post.ensures, c.linked.ensures) (linked_leads g.T.Told.told c.args.config.now.value c.args.goal c.in-Ok.class c.requires.goal is)
