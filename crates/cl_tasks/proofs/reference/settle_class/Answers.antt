use Rattle.cl_tasks.proofs.Entries.{settles_class}
use Rattle.cl_tasks.proofs.reference.settle_class.Goals as goal

pub returns-in-Ok-Ok-clause-leads : goal.returns-in-Ok-Ok-clause-leads
returns-in-Ok-Ok-clause-leads g c =
    settles_class g.row.T.Denot g.T.Told.told c.args.config.now.value c.in-Ok-Ok.config.value c.args.entry c.in-Ok-Ok.kept c.args.named.value c.args.verdict c.class_entry-finding.result c.settle.result
    c.requires.entry c.in-Ok-Ok.ensures c.in-Ok-Ok.ensures' c.requires.ends c.requires.settled
    (record { is = c.class_entry-finding.ensures; rests = c.answer.ensures.rests }) c.settle.ensures
