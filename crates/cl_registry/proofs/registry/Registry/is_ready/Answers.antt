use Rattle.std.proofs.Common.{◌∙◌, subst}
use Rattle.std.specs.List.{AllByRecursion}
use Rattle.cl_classfile.specs.Files.{file_of}
use Rattle.cl_findings.specs.Findings.{Decides}
use Rattle.cl_hierarchy.specs.Imposed.{needs_of}
use Rattle.cl_hierarchy.specs.Rows.{Rowed}
use Rattle.cl_model.specs.Classes.{supers}
use Rattle.cl_model.specs.States.{AllMet}
use Rattle.cl_registry.specs.Imposing.{IsPreparedAbove}
use Rattle.cl_registry.specs.Tables.{Shown, state_of}
use Rattle.cl_registry.specs.View.{shown_of}
use Rattle.cl_registry.proofs.Known.{standing_with}
use Rattle.cl_registry.proofs.Tested.{ready_by}
use Rattle.cl_registry.proofs.registry.Registry.is_ready.Goals as goal

pub returns-clause-ready : goal.returns-clause-ready
returns-clause-ready g c =
    let x : Shown = shown_of c.self.inside in
    ready_by c.args.self.now c.args.lineage.now c.args.equalities.now c.are_met.result c.if-not-has_lineage.ensures.stands
    (subst (λ (r : Rowed). AllByRecursion (IsPreparedAbove c.args.self.now r.class) (supers (file_of r.file))) (c.deref.ensures ∙ c.own.ensures.own) c.if-not-supers_prepared.ensures)
    (subst (λ (y : Shown). Decides c.are_met.result (AllMet (state_of y) (needs_of c.args.equalities.now))) c.self.view_is (c.are_met.ensures (state_of x) (standing_with (state_of x) _ _ c.as_slice.ensures.value c.self.invariant.book c.self.invariant.met)))
