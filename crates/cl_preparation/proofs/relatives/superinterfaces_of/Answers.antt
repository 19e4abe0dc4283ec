use Rattle.std.proofs.Common.{◌≡◌, ◌∙◌, false, ap, sym, map}
use Rattle.cl_hierarchy.specs.Lineages.{Lined, kin_at}
use Rattle.cl_preparation.specs.Relatives.{names_interfaces}
use Rattle.cl_preparation.proofs.Interfaces.{none_above}
use Rattle.cl_preparation.proofs.relatives.superinterfaces_of.Goals as goal

pub returns-then-not-any_names_interfaces : goal.returns-then-not-any_names_interfaces
returns-then-not-any_names_interfaces g c =
    let l : Lined = c.args.lineage.now in
    let own : names_interfaces l.own ≡ false = ap names_interfaces (sym (c.deref.ensures ∙ c.own.ensures.own)) ∙ sym c.names_interfaces.ensures ∙ c.if-not-names_interfaces.true in
    ap (map (λ r. kin_at l r.value)) c.new.ensures.items
    ∙ none_above (λ r. r.value) l c.args.above.now c.requires own (sym c.any_names_interfaces.ensures ∙ c.if-not-any_names_interfaces.true)
