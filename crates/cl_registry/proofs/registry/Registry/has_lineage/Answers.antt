use Rattle.std.proofs.Common.{◌∙◌, subst, sym}
use Rattle.cl_findings.specs.Findings.{Decides}
use Rattle.cl_registry.specs.Imposing.{IsStanding}
use Rattle.cl_registry.specs.Tables.{Shown, placed_at, table_row}
use Rattle.cl_registry.specs.View.{shown_of}
use Rattle.cl_registry.proofs.Asked.{place_at}
use Rattle.cl_registry.proofs.Tested.{standing_at}
use Rattle.cl_registry.proofs.registry.Registry.has_lineage.Goals as goal

pub returns-clause-stands : goal.returns-clause-stands
returns-clause-stands g c =
    let x : Shown = shown_of c.self.inside in
    subst (λ (y : Shown). Decides c.has.result (IsStanding y c.args.lineage.now)) c.self.view_is
    (standing_at x c.args.lineage.now c.class-class.result.now c.has.result (placed_at c.self.inside.tables.items) c.class-class.ensures.class (sym (c.deref.ensures ∙ c.config.ensures.config) ∙ c.if-not-is_same.ensures ∙ c.deref-2.ensures)
    (place_at (λ r. r.value) g.T.Told.told x c.self.invariant.kept (table_row c.self.inside.tables.items) c.self.invariant.rows) c.has.ensures)
