use Rattle.cl_tasks.proofs.LoadSteps.{steps_fault, steps_probed}
use Rattle.cl_tasks.proofs.load_replies.after_read.Goals as goal

pub returns-in-Probed : goal.returns-in-Probed
returns-in-Probed g c = rw c.in-Probed.is (steps_probed g.T.Told.told c.args.job c.args.search c.in-Probed.probe _ c.take_probe.ensures.leads c.take_probe.ensures.no_fault c.take_probe.ensures.derives c.take_probe.ensures.reads)

pub returns-in-SourceFault : goal.returns-in-SourceFault
returns-in-SourceFault g c = rw c.in-SourceFault.is (steps_fault g.T.Told.told c.args.job c.args.search c.in-SourceFault.fault _ c.requires.job c.requires.search c.at_name.ensures.path c.blame_source.ensures.leads c.blame_source.ensures.posts c.blame_source.ensures.past)
