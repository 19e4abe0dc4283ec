use Rattle.cl_tasks.proofs.Entries.{posts_entry}
use Rattle.cl_tasks.proofs.reference.post_at_once.Goals as goal

pub returns-in-Ok-clause-leads : goal.returns-in-Ok-clause-leads
returns-in-Ok-clause-leads g c =
    posts_entry g.row.T.Denot g.T.Told.told c.args.config.now.value c.in-Ok.config.value c.args.entry c.args.verdict c.entry-finding.result c.post.result c.requires.entry c.in-Ok.ensures c.requires.ends c.requires.unsettled
    (record { is = c.entry-finding.ensures; rests = c.answer.ensures.rests }) c.post.ensures
