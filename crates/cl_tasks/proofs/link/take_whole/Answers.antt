use Rattle.cl_tasks.proofs.LinkLeads.{count_leads, rows_few}
use Rattle.cl_tasks.proofs.link.take_whole.Goals as goal

pub returns-in-Ok-clause-leads : goal.returns-in-Ok-clause-leads
returns-in-Ok-clause-leads g c =
    let l = c.args.whole in
    count_leads g.T.Told.told c.args.config.now.value c.args.goal l c.in-Ok.same c.requires.goal c.requires.whole c.class.ensures.kept.lineage c.in-Ok.ensures.clone
    (rows_few l c.count_above.result c.count_above.type_inv c.count_above.ensures)
