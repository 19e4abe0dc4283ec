use Rattle.std.proofs.Common.{◌≡◌, ◌∙◌, ap, sym, subst, length}
use Rattle.std.specs.Prelude.{MatchOption, IfSome, Some}
use Rattle.cl_registry.specs.Tables.{Shown, MayJoin, looked_row, table_row}
use Rattle.cl_registry.proofs.Asked.{below_count, joins, home_looked}
use Rattle.cl_registry.proofs.registry.Registry.home_row.Goals as goal

pub returns-clause-none : goal.returns-clause-none
returns-clause-none g c =
    subst (λ (y : Shown). MatchOption c.defined_row.result (MayJoin y c.args.home.now → ⊥) (λ r. MayJoin y c.args.home.now)) c.self.view_is
    (joins (λ r. r.value) g.T.Told.told _ c.self.invariant.kept (table_row c.self.inside.tables.items) c.self.invariant.rows (λ r. r.now) c.args.home.now c.defined_row.result (sym c.config.ensures.config ∙ c.if-not-is_same.ensures ∙ c.deref.ensures)
    (below_count _ _ _ _ c.if-asked_loader-count.false (c.asked_loader-else-not-is_same.view_is ∙ c.asked_loader.ensures) (c.count.ensures.count ∙ ap (λ k. length k.loaders) c.deref-else-not-is_same.ensures))
    c.defined_row.ensures.row c.defined_row.ensures.own)

pub returns-clause-row : goal.returns-clause-row
returns-clause-row g c =
    subst (λ (y : Shown). IfSome c.defined_row.result (λ r. looked_row y c.args.home.now.definer c.args.home.now.name ≡ Some r.now.value)) c.self.view_is
    (home_looked (λ r. r.value) g.T.Told.told _ c.self.invariant.kept (table_row c.self.inside.tables.items) c.self.invariant.rows (λ r. r.now) c.args.home.now c.defined_row.result c.defined_row.ensures.row)
