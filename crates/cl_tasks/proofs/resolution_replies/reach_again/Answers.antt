use Rattle.std.proofs.Common.{◌∙◌, ap, sym}
use Rattle.cl_hierarchy.specs.Rows.{Rowed}
use Rattle.cl_tasks.proofs.EntrySteps.{found_steps, texts_same}
use Rattle.cl_tasks.proofs.resolution_replies.reach_again.Goals as goal

pub returns : goal.returns
returns g c =
    found_steps g.T.Told.told c.args.config.now.value c.args.failed c.args.row c.reach_own.result c.requires.failed
    (ap (λ (r : Rowed). r.class.name) (sym c.deref.ensures) ∙ ap (λ k. k.name) (sym c.class.ensures.class) ∙ texts_same _ _ (sym c.if-ne.ensures) ∙ c.name.ensures)
    c.reach_own.ensures.reaches (c.reach_own.ensures.goes_on c.args.config.now.value) c.reach_own.ensures.plain c.reach_own.ensures.past
