use Rattle.std.proofs.Common.{◌≡◌, rules, ap, sym, ◌∙◌}
use Rattle.cl_model.specs.Preparation.{constraints_of}
use Rattle.cl_hierarchy.specs.Imposed.{Listed, needs_of}
use Rattle.cl_hierarchy.specs.Lineages.{Lined, kin_of}
use Rattle.cl_preparation.proofs.relatives.constraints_of.Goals as goal

pub of_preparation-requires : goal.of_preparation-requires
of_preparation-requires g c =
    let same : c.in_ok-try_clone.field-0 ≡ c.args.lineage.now = search rules in
    c.in_ok-needs.ensures ∙ ap (λ (l : Lined). constraints_of (kin_of l)) (c.in_ok-relatives.ensures ∙ sym same)

pub returns-clause-needs : goal.returns-clause-needs
returns-clause-needs g c =
    ap (λ (e : Listed). needs_of e.needs) c.of_preparation.ensures ∙ c.in_ok-needs.ensures ∙ ap (λ (l : Lined). constraints_of (kin_of l)) c.in_ok-relatives.ensures
