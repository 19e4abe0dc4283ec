use Rattle.cl_tasks.proofs.Entries.{settles_entry}
use Rattle.cl_tasks.proofs.reference.settle_at_once.Goals as goal

pub returns-in-Ok-Ok-clause-leads : goal.returns-in-Ok-Ok-clause-leads
returns-in-Ok-Ok-clause-leads g c =
    settles_entry g.row.T.Denot g.T.Told.told c.args.config.now.value c.in-Ok-Ok.config.value c.args.entry c.in-Ok-Ok.kept c.args.verdict c.entry-finding.result c.settle.result
    c.requires.entry c.in-Ok-Ok.ensures c.in-Ok-Ok.ensures' c.requires.ends c.requires.settled
    (record { is = c.entry-finding.ensures; rests = c.answer.ensures.rests }) c.settle.ensures
