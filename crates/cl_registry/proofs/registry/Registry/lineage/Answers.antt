use Rattle.std.proofs.Common.{Err, ap, subst}
use Rattle.cl_config.specs.Views.{Configured}
use Rattle.cl_hierarchy.specs.RowTables.{IsMadeOf, Makes}
use Rattle.cl_hierarchy.specs.declared.making.LineageFault.{LineageFault}
use Rattle.cl_registry.specs.Tables.{Shown, IsKept}
use Rattle.cl_registry.proofs.Tracing.{made_recorded, none_recorded, some_recorded, traced}
use Rattle.cl_registry.proofs.registry.Registry.lineage.Goals as goal

pub returns-in-Err-Unknown-clause-refused : goal.returns-in-Err-Unknown-clause-refused
returns-in-Err-Unknown-clause-refused g c =
    none_recorded g.T.Told.told c.args.self.now c.args.class.now (subst (λ (y : Shown). IsKept g.T.Told.told y) c.self.view_is c.self.invariant.kept)
    (subst (λ (f : LineageFault). Makes c.self.inside.config.value c.args.self.now.rows c.args.class.now (Err f)) c.in-Err-Unknown.field-0-is c.in-Err-Unknown.ensures)

pub returns-in-Err-Memory-clause-refused : goal.returns-in-Err-Memory-clause-refused
returns-in-Err-Memory-clause-refused g c =
    some_recorded g.T.Told.told c.args.self.now c.args.class.now (subst (λ (y : Shown). IsKept g.T.Told.told y) c.self.view_is c.self.invariant.kept)
    (subst (λ (f : LineageFault). Makes c.self.inside.config.value c.args.self.now.rows c.args.class.now (Err f)) c.in-Err-Memory.field-0-is c.in-Err-Memory.ensures)

pub returns-in-Ok-clause-recorded : goal.returns-in-Ok-clause-recorded
returns-in-Ok-clause-recorded g c =
    made_recorded g.T.Told.told c.args.self.now c.args.class.now c.in-Ok.lineage (subst (λ (y : Shown). IsKept g.T.Told.told y) c.self.view_is c.self.invariant.kept)
    (subst (λ (k : Configured). IsMadeOf k c.args.self.now.rows c.args.class.now c.in-Ok.lineage) (ap (λ (y : Shown). y.config) c.self.view_is) c.in-Ok.ensures)

pub returns-in-Ok-clause-traced : goal.returns-in-Ok-clause-traced
returns-in-Ok-clause-traced g c =
    traced g.T.Told.told c.args.self.now c.args.class.now c.in-Ok.lineage (subst (λ (y : Shown). IsKept g.T.Told.told y) c.self.view_is c.self.invariant.kept)
    (subst (λ (k : Configured). IsMadeOf k c.args.self.now.rows c.args.class.now c.in-Ok.lineage) (ap (λ (y : Shown). y.config) c.self.view_is) c.in-Ok.ensures)
