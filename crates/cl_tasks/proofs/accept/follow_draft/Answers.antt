use Rattle.std.proofs.Common.{sym, subst, ◌∙◌}
use Rattle.cl_hierarchy.specs.Frames.{Framed}
use Rattle.cl_tasks.specs.Steps.{DefinesBy}
use Rattle.cl_tasks.proofs.Fall.{supers_within}
use Rattle.cl_tasks.proofs.Onward.{leads_root, waits_first}
use Rattle.cl_hierarchy.specs.Paths.{fresh}
use Rattle.cl_tasks.proofs.Deriving.{defines_derives}
use Rattle.cl_tasks.proofs.accept.follow_draft.Goals as goal

pub returns-then-supertypes-eq0-clause-leads : goal.returns-then-supertypes-eq0-clause-leads
returns-then-supertypes-eq0-clause-leads g c =
    leads_root g.T.Told.told c.args.job c.args.draft _ c.requires.job c.at_name.ensures.path c.requires.home c.home.ensures.draft c.requires.off (sym c.supertypes.ensures ∙ c.if-supertypes-eq0.true)
    (subst (λ (x : Framed). DefinesBy c.args.job x c.define.result) c.new.ensures c.define.ensures)

pub descend-requires-clause-waits : goal.descend-requires-clause-waits
descend-requires-clause-waits g c = waits_first c.args.draft (λ e. c.if-supertypes-eq0.false (c.supertypes.ensures ∙ e))

pub descend-requires-clause-few : goal.descend-requires-clause-few
descend-requires-clause-few g c = supers_within _ _ c.supertypes.ensures c.supertypes.type_inv

pub returns-then-supertypes-eq0-clause-derives : goal.returns-then-supertypes-eq0-clause-derives
returns-then-supertypes-eq0-clause-derives g c =
    defines_derives c.args.job (fresh c.args.draft) _ (subst (λ (x : Framed). DefinesBy c.args.job x c.define.result) c.new.ensures c.define.ensures)
