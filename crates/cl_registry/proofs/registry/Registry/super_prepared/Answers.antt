use Rattle.std.proofs.Common.{◌∙◌, Option, ap, subst, sym}
use Rattle.std.specs.Prelude.{Contains, IfSome}
use Rattle.cl_findings.specs.Findings.{Decides}
use Rattle.cl_hierarchy.specs.Rows.{Rowed}
use Rattle.cl_hierarchy.specs.Supertypes.{plain_supertype}
use Rattle.cl_model.specs.declared.class.Class.{Class}
use Rattle.cl_model.specs.Classes.{Above}
use Rattle.cl_model.specs.Tables.{Records}
use Rattle.cl_registry.specs.Imposing.{IsPreparedAbove}
use Rattle.cl_registry.specs.Tables.{LacksRecord, state_of}
use Rattle.cl_registry.proofs.Tested.{above_by, above_none}
use Rattle.cl_registry.proofs.registry.Registry.super_prepared.Goals as goal

pub returns-in_default : goal.returns-in_default
returns-in_default g c = subst (λ (o : Option Above). IfSome o (IsPreparedAbove c.args.self.now c.args.row.now.class)) c.in_default.ensures tt

pub returns-in-None : goal.returns-in-None
returns-in-None g c =
    λ h.
    above_none c.args.self.now c.args.row.now.class (plain_supertype c.in-Some.above) (subst (λ (k : Class). LacksRecord c.args.self.now k.loader c.in-Some.above.name.now) c.class.ensures.class c.in-None.ensures.found)
    (subst (λ (o : Option Above). IfSome o (IsPreparedAbove c.args.self.now c.args.row.now.class)) (sym c.in-Some.ensures) h)

pub returns-in-Some-look : goal.returns-in-Some-look
returns-in-Some-look g c =
    let row = c.in-Some-look.found.now.value in
    subst (λ (o : Option Above). Decides c.look_prepared.result (IfSome o (IsPreparedAbove c.args.self.now c.args.row.now.class))) c.in-Some.ensures
    (above_by c.args.self.now c.args.row.now.class (plain_supertype c.in-Some.above) row c.look_prepared.result
    (subst (λ (k : Class). Records (state_of c.args.self.now) k.loader c.in-Some.above.name.now row.class) c.class.ensures.class c.in-Some-look.ensures.found)
    (subst (λ (k : Class). Decides c.look_prepared.result (Contains (state_of c.args.self.now).prepared k)) (c.class-in-Some-look.ensures.class ∙ ap (λ (r : Rowed). r.class) c.deref.ensures) c.look_prepared.ensures.prepared))
