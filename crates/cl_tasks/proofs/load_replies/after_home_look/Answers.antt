use Rattle.cl_tasks.proofs.LoadSteps.{steps_home}
use Rattle.cl_tasks.proofs.load_replies.after_home_look.Goals as goal

pub returns-in-Looked : goal.returns-in-Looked
returns-in-Looked g c = rw c.in-Looked.is (steps_home g.T.Told.told c.args.job c.args.home c.in-Looked.row _ c.requires.job.for_request c.requires.home c.take_look.ensures.leads c.take_look.ensures.plain c.take_look.ensures.derives)
