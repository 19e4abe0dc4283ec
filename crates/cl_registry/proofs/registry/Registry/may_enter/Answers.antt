use Rattle.std.proofs.Common.{◌∙◌, ap, sym, subst, length}
use Rattle.std.specs.Prelude.{MatchBool}
use Rattle.cl_registry.specs.Tables.{Shown, MayEnter, table_row}
use Rattle.cl_registry.proofs.Asked.{below_count, enters_by, lacks_above}
use Rattle.cl_registry.proofs.registry.Registry.may_enter.Goals as goal

pub returns-then-not-has_supers-clause-may : goal.returns-then-not-has_supers-clause-may
returns-then-not-has_supers-clause-may g c =
    subst (λ (y : Shown). MayEnter y c.args.draft.now → ⊥) c.self.view_is
    (lacks_above (λ r. r.value) g.T.Told.told _ c.self.invariant.kept (table_row c.self.inside.tables.items) c.self.invariant.rows c.args.draft.now c.if-not-has_supers.ensures)

pub returns-clause-may : goal.returns-clause-may
returns-clause-may g c =
    subst (λ (y : Shown). MatchBool c.supertypes_fit.result (MayEnter y c.args.draft.now) (MayEnter y c.args.draft.now → ⊥)) c.self.view_is
    (enters_by (λ r. r.value) g.T.Told.told _ c.self.invariant.kept (table_row c.self.inside.tables.items) c.self.invariant.rows c.args.draft.now c.supertypes_fit.result
    (sym (c.config.ensures.config ∙ ap (λ h. h.config) (c.deref.ensures ∙ c.home.ensures.home)) ∙ c.if-not-is_same.ensures ∙ c.deref-2.ensures)
    (below_count _ _ _ _ c.if-class-count.false (ap (λ k. k.loader) c.behind-draft.view_is ∙ ap (λ k. k.loader) c.class.ensures) (c.count.ensures.count ∙ ap (λ k. length k.loaders) c.deref-else-not-is_same.ensures))
    c.if-not-has_supers.ensures c.supertypes_fit.ensures)
