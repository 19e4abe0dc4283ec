use Rattle.std.proofs.Common.{ap}
use Rattle.cl_findings.specs.Findings.{Answered}
use Rattle.cl_tasks.proofs.Concluding.{concludes_found, concludes_plain}
use Rattle.cl_tasks.proofs.Obstacles.{obstacle_ends}
use Rattle.cl_tasks.proofs.Deriving.{concludes_past}
use Rattle.cl_tasks.proofs.ends.obstacle.Goals as goal

pub returns-clause-leads : goal.returns-clause-leads
returns-clause-leads g c =
    concludes_found g.T.Told.told c.args.job c.obstacle.result _ _ _ c.in-Ok.aftermath _ c.requires.job
    (obstacle_ends g.T.Told.told c.args.job c.args.end c.recorded_is_named.ensures c.requires.job c.bring_end.ensures c.requires.stops c.requires.within) c.in-Ok.ensures.follows c.obstacle.ensures c.conclude.ensures

pub returns-clause-plain : goal.returns-clause-plain
returns-clause-plain g c = concludes_plain c.args.job.q c.obstacle.result _ c.in-Ok.aftermath _ (ap (λ (f : Answered). f.answer) c.obstacle.ensures) c.conclude.ensures

pub returns-clause-past : goal.returns-clause-past
returns-clause-past g c = concludes_past c.args.job.q c.obstacle.result c.in-Ok.aftermath _ c.conclude.ensures
