use Rattle.std.proofs.Common.{◌∙◌}
use Rattle.cl_bundle.proofs.Cutting.{opens_at, opens_later, opens_wrong}
use Rattle.cl_bundle.proofs.sections.take_config_line.Goals as goal

pub returns-then-is_config : goal.returns-then-is_config
returns-then-is_config c =
    c.loop-line.invariant ∙ opens_at _ _ _ c.in-Some.ensures.cut (cc (c.is_skipped.ensures, c.if-not-is_skipped.true)) (cc (c.is_config.ensures, c.if-is_config.true))

pub loop-line-preserved : goal.loop-line-preserved
loop-line-preserved c = c.loop-line.invariant ∙ opens_later _ _ _ c.in-Some.ensures.cut (cc (c.is_skipped.ensures, c.if-not-is_skipped.false))

pub returns-else-is_config : goal.returns-else-is_config
returns-else-is_config c =
    c.loop-line.invariant ∙ opens_wrong _ _ _ c.in-Some.ensures.cut (cc (c.is_skipped.ensures, c.if-not-is_skipped.true)) (cc (c.is_config.ensures, c.if-is_config.false))
