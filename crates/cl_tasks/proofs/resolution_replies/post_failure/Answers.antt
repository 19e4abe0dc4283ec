use Rattle.std.proofs.Common.{length, subst}
use Rattle.cl_config.specs.Views.{Configured}
use Rattle.cl_findings.specs.Findings.{IsWithin}
use Rattle.cl_tasks.proofs.EntrySteps.{decided, unfound_steps}
use Rattle.cl_tasks.proofs.resolution_replies.post_failure.Goals as goal

pub returns : goal.returns
returns g c =
    unfound_steps g.T.Told.told c.args.config.now.value c.args.failed c.post.result c.requires.failed c.answer.ensures.rests
    (subst (λ (k : Configured). IsWithin (length k.loaders) c.args.failed.finding) c.deref.ensures (decided c.is_within.result c.is_within.ensures c.if-not-is_within.false)) c.post.ensures
