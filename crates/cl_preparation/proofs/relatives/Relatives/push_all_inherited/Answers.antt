use Rattle.std.proofs.Common.{◌≡◌, ◌++◌, Bool, false, [], if◌then◌else◌, rules, ap, sym, ◌∙◌}
use Rattle.std.specs.Prelude.{flat_map}
use Rattle.std.proofs.lemmas.Result.{on_ok_weaker}
use Rattle.cl_classfile.specs.Files.{is_interface}
use Rattle.cl_model.specs.Lineages.{Kin, superinterfaces}
use Rattle.cl_model.specs.Preparation.{for_inherited}
use Rattle.cl_hierarchy.specs.Imposed.{needs_of}
use Rattle.cl_hierarchy.specs.Lineages.{kin_of}
use Rattle.cl_preparation.proofs.Constraints.{interfaces_are}
use Rattle.cl_preparation.proofs.relatives.Relatives.push_all_inherited.Goals as goal

pub returns : goal.returns
returns g c =
    let no : is_interface (kin_of c.args.self.now).file ≡ false = search rules in
    on_ok_weaker c.push_interfaces.result
    (λ e. e ∙ ap (λ ns. needs_of c.args.needs.now.items ++ ns) (interfaces_are (λ r. r.value) c.args.self.now c.superinterfaces.result.now c.superinterfaces.ensures)
    ∙ ap (λ (b : Bool). needs_of c.args.needs.now.items ++ (if b then [] else flat_map (λ (j : Kin). flat_map (for_inherited (kin_of c.args.self.now) j) j.file.methods) (superinterfaces (kin_of c.args.self.now)))) (sym no))
    c.push_interfaces.ensures
