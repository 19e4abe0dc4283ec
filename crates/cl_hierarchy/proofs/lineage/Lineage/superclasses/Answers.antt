use Rattle.std.proofs.Common.{◌≡◌, [], List, map, refl, subst, sym}
use Rattle.std.proofs.lemmas.Result.{IfOk-weaker}
use Rattle.cl_model.specs.Lineages.{upward}
use Rattle.cl_hierarchy.specs.Rows.{Rowed}
use Rattle.cl_hierarchy.specs.Trees.{SupersBefore, forest, kin_under, kins, superclass_in}
use Rattle.cl_hierarchy.proofs.Climbs.{rows_in_all}
use Rattle.cl_hierarchy.proofs.lineage.Lineage.superclasses.Goals as goal

pub upward-requires : goal.upward-requires
upward-requires g c = subst (λ (rs : List Rowed). SupersBefore [] rs) (sym c.above.ensures.rows) c.above.ensures.kept.order.above

pub returns-clause-superclasses : goal.returns-clause-superclasses
returns-clause-superclasses g c =
    IfOk-weaker c.upward.result _ _
    (λ v e.
    subst (λ (r : Rowed). map (λ x. kin_under (kins c.args.self.now.above) x.value) v.items ≡ upward (forest (kins c.args.self.now.above) (superclass_in r))) c.own.ensures.own
    (subst (λ (rs : List Rowed). map (λ x. kin_under (kins rs) x.value) v.items ≡ upward (forest (kins rs) (superclass_in c.own.result.now.value))) c.above.ensures.rows e)) c.upward.ensures.kins

pub returns-clause-rows : goal.returns-clause-rows
returns-clause-rows g c =
    IfOk-weaker c.upward.result _ _ (λ v h. rows_in_all (λ r. r.value) c.args.self.now c.args.self.now _ refl c.above.ensures.rows v.items h) c.upward.ensures.rows
