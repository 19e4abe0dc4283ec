use Rattle.std.proofs.Common.{Some, sym, ap, subst, ◌∙◌}
use Rattle.cl_delegation.specs.Searches.{LeadsTo, Located}
use Rattle.cl_tasks.proofs.Lead.{same_of}
use Rattle.cl_tasks.proofs.Onward.{leads_initiate}
use Rattle.cl_tasks.proofs.accept.initiate.Goals as goal

pub returns-in-Ok-clause-leads : goal.returns-in-Ok-clause-leads
returns-in-Ok-clause-leads g c =
    leads_initiate g.T.Told.told c.args.job c.args.home c.in-Ok.kept c.args.row.now c.in-Ok.ensures c.requires.job c.at_name.ensures.path c.requires.next.0
    (subst (λ (h : Located). LeadsTo g.T.Told.told h.config h.asked h.name (Some h.definer)) c.deref.ensures c.config.ensures.leads) c.requires.next.1
    (ap (λ k. k.loader) (sym c.class.ensures.class) ∙ same_of _ _ (sym c.if-ne.ensures) ∙ c.definer.ensures ∙ ap (λ (h : Located). h.definer) c.deref-2.ensures)
