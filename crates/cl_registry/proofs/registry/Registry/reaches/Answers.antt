use Rattle.std.proofs.Common.{◌∙◌, subst, sym}
use Rattle.cl_findings.specs.Findings.{Decides}
use Rattle.cl_registry.specs.Imposing.{IsReached}
use Rattle.cl_registry.specs.Tables.{Shown, placed_at, table_row}
use Rattle.cl_registry.specs.View.{shown_of}
use Rattle.cl_registry.proofs.Asked.{place_at}
use Rattle.cl_registry.proofs.Tested.{not_reached, reached_at}
use Rattle.cl_registry.proofs.registry.Registry.reaches.Goals as goal

pub returns-then-not-has-clause-reached : goal.returns-then-not-has-clause-reached
returns-then-not-has-clause-reached g c =
    let x : Shown = shown_of c.self.inside in
    subst (λ (y : Shown). IsReached y c.args.d.now c.args.c.now → ⊥) c.self.view_is
    (not_reached x c.args.d.now c.args.c.now c.class.result.now c.class-class.result.now (placed_at c.self.inside.tables.items) c.class.ensures.class c.class-class.ensures.class
    (place_at (λ r. r.value) g.T.Told.told x c.self.invariant.kept (table_row c.self.inside.tables.items) c.self.invariant.rows) c.if-not-has.ensures)

pub returns-clause-reached : goal.returns-clause-reached
returns-clause-reached g c =
    let x : Shown = shown_of c.self.inside in
    subst (λ (y : Shown). Decides c.class_accessible.result (IsReached y c.args.d.now c.args.c.now)) c.self.view_is
    (reached_at x c.args.d.now c.args.c.now c.class.result.now c.class-class.result.now c.class-2.result.now c.deref-3.result.now c.class_accessible.result (placed_at c.self.inside.tables.items) c.class.ensures.class c.class-class.ensures.class
    (sym (c.deref.ensures ∙ c.config.ensures.config) ∙ c.if-not-is_same.ensures ∙ c.deref-2.ensures)
    (place_at (λ r. r.value) g.T.Told.told x c.self.invariant.kept (table_row c.self.inside.tables.items) c.self.invariant.rows) c.if-not-has.ensures (c.deref-3.ensures ∙ c.own.ensures.own) c.class-2.ensures.class c.class_accessible.ensures)
