use Rattle.std.proofs.Common.{◌∙◌}
use Rattle.cl_hierarchy.proofs.Drafting.{is_draft_of}
use Rattle.cl_hierarchy.proofs.draft.draft_of.Goals as goal

pub invariant_of-result : goal.invariant_of-result
invariant_of-result g c =
    is_draft_of g.T.Told.told _ _ _ c.args.file _ c.args.home (c.in-Ok.ensures ∙ c.name.ensures) c.definer.ensures c.in-Ok-new.ensures.ok c.in-Ok-new-2.ensures.ok
    c.requires.told c.requires.file c.requires.named c.config.ensures.leads c.config.ensures.within
