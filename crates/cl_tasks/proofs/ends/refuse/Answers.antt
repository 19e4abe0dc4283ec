use Rattle.std.proofs.Common.{ap}
use Rattle.cl_findings.specs.Findings.{Answered}
use Rattle.cl_tasks.proofs.Concluding.{concludes_found, concludes_plain, concludes_refused}
use Rattle.cl_tasks.proofs.Obstacles.{refusal_ends}
use Rattle.cl_tasks.proofs.Deriving.{concludes_past}
use Rattle.cl_tasks.proofs.Lacking.{concludes_lacks}
use Rattle.cl_tasks.proofs.ends.refuse.Goals as goal

pub returns-clause-leads : goal.returns-clause-leads
returns-clause-leads g c =
    concludes_found g.T.Told.told c.args.job c.refused.result _ _ _ c.in-Ok.aftermath _ c.requires.job
    (refusal_ends g.T.Told.told c.args.job c.args.next c.args.need c.requires.job c.bring_next.ensures.rests c.requires.need c.bring_next.ensures.within) c.in-Ok.ensures.follows c.refused.ensures c.conclude.ensures

pub returns-clause-plain : goal.returns-clause-plain
returns-clause-plain g c = concludes_plain c.args.job.q c.refused.result _ c.in-Ok.aftermath _ (ap (λ (f : Answered). f.answer) c.refused.ensures) c.conclude.ensures

pub returns-clause-ends : goal.returns-clause-ends
returns-clause-ends g c = concludes_refused c.args.job c.refused.result c.args.need c.in-Ok.aftermath _ c.in-Ok.ensures.follows (ap (λ (f : Answered). f.answer) c.refused.ensures) c.conclude.ensures

pub returns-clause-past : goal.returns-clause-past
returns-clause-past g c = concludes_past c.args.job.q c.refused.result c.in-Ok.aftermath _ c.conclude.ensures

pub returns-clause-lacks : goal.returns-clause-lacks
returns-clause-lacks g c = λ h. absurd (concludes_lacks c.args.job.q c.refused.result _ c.in-Ok.aftermath _ (ap (λ (f : Answered). f.answer) c.refused.ensures) c.conclude.ensures h)
