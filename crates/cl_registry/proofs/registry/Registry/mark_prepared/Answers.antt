use Rattle.std.proofs.Common.{◌∙◌, List, ap, subst, sym}
use Rattle.std.specs.Prelude.{Contains}
use Rattle.cl_model.specs.declared.class.Class.{Class}
use Rattle.cl_model.specs.declared.need.Equality.{Equality}
use Rattle.cl_hierarchy.specs.Imposed.{needs_of, sprung}
use Rattle.cl_registry.specs.Imposing.{IsReady}
use Rattle.cl_registry.specs.Tables.{state_of}
use Rattle.cl_registry.proofs.Tested.{mark_lacks, marked_by, marks_as, prepared_by}
use Rattle.cl_registry.proofs.registry.Registry.mark_prepared.Goals as goal

pub returns-then-look_prepared-clause-prepared : goal.returns-then-look_prepared-clause-prepared
returns-then-look_prepared-clause-prepared g c =
    prepared_by c.args.self.now c.args.list.now.origin c.in-Preparation.lineage c.class.result.now (sym (ap (λ o. sprung o) c.in-Preparation.is) ∙ c.origin.ensures.origin) c.class.ensures.class c.if-look_prepared.ensures.prepared

pub returns-then-look_prepared-clause-marked : goal.returns-then-look_prepared-clause-marked
returns-then-look_prepared-clause-marked g c =
    marked_by c.args.self.now c.args.list.now.origin c.in-Preparation.lineage c.class.result.now (sym (ap (λ o. sprung o) c.in-Preparation.is) ∙ c.origin.ensures.origin) c.class.ensures.class c.if-look_prepared.ensures.prepared

pub prepare-requires-clause-may : goal.prepare-requires-clause-may
prepare-requires-clause-may g c =
    marks_as g.T.Told.told c.args.self.now c.args.list.now c.in-Preparation.lineage c.class-2.result.now (sym (ap (λ o. sprung o) c.in-Preparation.is) ∙ c.origin.ensures.origin) c.class-2.ensures.class c.if-not-is_ready.ensures.kept c.class-2.ensures.kept c.origin.ensures.kept.are
    (subst (λ (es : List Equality). IsReady c.args.self.now c.in-Preparation.lineage (needs_of es)) c.needs.ensures.needs c.if-not-is_ready.ensures.ready)
    (subst (λ (k : Class). Contains (state_of c.args.self.now).prepared k → ⊥) (c.class.ensures.class ∙ sym c.class-2.ensures.class) c.if-look_prepared.ensures.prepared)

pub returns-clause-prepared : goal.returns-clause-prepared
returns-clause-prepared g c =
    prepared_by c.prepare.new.self c.args.list.now.origin c.in-Preparation.lineage c.class-2.result.now (sym (ap (λ o. sprung o) c.in-Preparation.is) ∙ c.origin.ensures.origin) c.class-2.ensures.class c.in-Ok.ensures.stands

pub returns-in-Err-clause-refused : goal.returns-in-Err-clause-refused
returns-in-Err-clause-refused g c =
    rw c.in-Err.ensures.memory
    (mark_lacks c.args.self.now c.args.list.now c.in-Preparation.lineage c.class-2.result.now (sym (ap (λ o. sprung o) c.in-Preparation.is) ∙ c.origin.ensures.origin) c.class-2.ensures.class
    (subst (λ (es : List Equality). IsReady c.args.self.now c.in-Preparation.lineage (needs_of es)) c.needs.ensures.needs c.if-not-is_ready.ensures.ready)
    (subst (λ (k : Class). Contains (state_of c.args.self.now).prepared k → ⊥) (c.class.ensures.class ∙ sym c.class-2.ensures.class) c.if-look_prepared.ensures.prepared))
