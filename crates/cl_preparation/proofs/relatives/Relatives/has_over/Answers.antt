use Rattle.std.proofs.Common.{◌≡◌, ◌||◌, Bool, true, false, ap, sym, ◌∙◌}
use Rattle.std.specs.List.{list_any}
use Rattle.cl_model.specs.Lineages.{superclasses, superinterfaces}
use Rattle.cl_model.specs.Preparation.{takes_part}
use Rattle.cl_hierarchy.specs.Lineages.{kin_of}
use Rattle.cl_preparation.proofs.Constraints.{any_above}
use Rattle.cl_preparation.proofs.relatives.Relatives.has_over.Goals as goal

pub returns-then-any_takes_part : goal.returns-then-any_takes_part
returns-then-any_takes_part g c =
    let above = any_above (λ r. r.value) c.args.self.now superclasses c.args.key.now c.superclasses.result.now c.any_takes_part.result c.superclasses.ensures c.any_takes_part.ensures in
    let yes : c.any_takes_part.result ≡ true = c.if-any_takes_part.true in
    yes ∙ ap (λ (b : Bool). b || list_any (takes_part c.args.key.now) (superinterfaces (kin_of c.args.self.now))) (sym yes ∙ above)

pub returns-else-any_takes_part : goal.returns-else-any_takes_part
returns-else-any_takes_part g c =
    let above = any_above (λ r. r.value) c.args.self.now superclasses c.args.key.now c.superclasses.result.now c.any_takes_part.result c.superclasses.ensures c.any_takes_part.ensures in
    let over = any_above (λ r. r.value) c.args.self.now superinterfaces c.args.key.now c.superinterfaces.result.now c.any_takes_part-else-any_takes_part.result c.superinterfaces.ensures c.any_takes_part-else-any_takes_part.ensures in
    let no : c.any_takes_part.result ≡ false = c.if-any_takes_part.false in
    over ∙ ap (λ (b : Bool). b || list_any (takes_part c.args.key.now) (superinterfaces (kin_of c.args.self.now))) (sym no ∙ above)
