use Rattle.cl_tasks.proofs.LoadSteps.{steps_begun}
use Rattle.cl_tasks.proofs.load_replies.begin.Goals as goal

pub returns-in-Start : goal.returns-in-Start
returns-in-Start g c = rw c.in-Start.is (steps_begun g.T.Told.told c.args.job _ c.requires.first c.requires.job.for_request c.look.ensures.leads c.look.ensures.looks c.look.ensures.plain c.look.ensures.derives)
