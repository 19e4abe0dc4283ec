use Rattle.std.proofs.Common.{◌≡◌, ◌∙◌, ◌++◌, ◌∷◌, List, [], ap, map, refl, subst, sym}
use Rattle.std.specs.List.{AllByRecursion}
use Rattle.std.proofs.lemmas.Result.{IfOk-weaker}
use Rattle.cl_model.specs.Classes.{is_among}
use Rattle.cl_model.specs.Lineages.{Kin}
use Rattle.cl_hierarchy.specs.Lineages.{IsRowIn, kin_at}
use Rattle.cl_hierarchy.specs.Rows.{Rowed}
use Rattle.cl_hierarchy.specs.Several.{superinterfaces_of_any}
use Rattle.cl_hierarchy.specs.Trees.{SupersBefore, kin_under, kins}
use Rattle.cl_hierarchy.proofs.Inside.{kins_inside, table_at, whole}
use Rattle.cl_hierarchy.proofs.lineage.Lineage.superinterfaces_of_any.Goals as goal

pub superinterface_classes-requires-clause-ordered : goal.superinterface_classes-requires-clause-ordered
superinterface_classes-requires-clause-ordered g c =
    subst (λ (rs : List Rowed). SupersBefore [] rs) (sym (table_at c.args.self.now _ _ _ refl c.above.ensures.rows (c.deref-2.ensures ∙ c.own.ensures.own))) (whole c.args.self.now c.above.ensures.kept.order)

pub superinterface_classes-requires-clause-inside : goal.superinterface_classes-requires-clause-inside
superinterface_classes-requires-clause-inside g c =
    subst (λ (rs : List Rowed). AllByRecursion (λ r. IsRowIn rs r.value) c.args.rows.now) (sym (table_at c.args.self.now _ _ _ refl c.above.ensures.rows (c.deref-2.ensures ∙ c.own.ensures.own))) c.requires

pub returns : goal.returns
returns g c =
    let same : map (λ r. kin_under (kins (map (λ x. x.value) c.above.result.now ++ c.deref-2.result.now ∷ [])) r.value) c.args.rows.now ≡ map (λ r. kin_at c.args.self.now r.value) c.args.rows.now =
    ap (λ (rs : List Rowed). map (λ r. kin_under (kins rs) r.value) c.args.rows.now) (table_at c.args.self.now _ _ _ refl c.above.ensures.rows (c.deref-2.ensures ∙ c.own.ensures.own))
    ∙ kins_inside c.args.self.now c.above.ensures.kept.order (λ r. r.value) c.args.rows.now c.requires in
    IfOk-weaker c.superinterface_classes.result _ _ (λ s k x. k x ∙ ap (λ (ks : List Kin). is_among (superinterfaces_of_any ks) x) same) c.superinterface_classes.ensures
