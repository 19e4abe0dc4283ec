use Rattle.std.proofs.Common.{◌≡◌, ◌-◌, rules, arith, refl, map, take, ◌∙◌}
use Rattle.std.proofs.lemmas.Grind.{common_steps}
use Rattle.cl_classfile.specs.Files.{method_of}
use Rattle.cl_preparation.specs.Relatives.{overrides_by_rows}
use Rattle.cl_preparation.proofs.Named.{overrides_told}
use Rattle.cl_preparation.proofs.overriding.overrides.Goals as goal

pub returns : goal.returns
returns g c =
    let none_before : c.args.place - 0 ≡ c.args.place = omega arith in
    let by_rows : c.overrides_by.result ≡ overrides_by_rows (method_of c.args.name.now c.args.descriptor.now) c.deref.result.now c.deref-2.result.now (map (λ r. r.value) (take c.args.place c.args.rows.now)) =
    first_of (search rules, cc (none_before, c.overrides_by.ensures), grind (arith, common_steps)) in
    overrides_told (λ r. r.value) c.args.lineage.now c.args.rows.now (take c.args.place c.args.rows.now) c.args.place c.index-rows-place.result c.deref.result.now c.deref-2.result.now
    (method_of c.args.name.now c.args.descriptor.now) c.overrides_by.result c.requires.rows c.requires.place c.index-rows-place.is (c.deref.ensures ∙ c.own.ensures.own) c.deref-2.ensures refl by_rows
