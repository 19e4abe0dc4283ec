use Rattle.std.proofs.Common.{◌∙◌, sym, ap, subst, refl, List, Option, length}
use Rattle.std.specs.Prelude.{option_map}
use Rattle.std.proofs.lemmas.List.{length-map}
use Rattle.std.proofs.lemmas.Option.{slice_get-map, slice_get_read}
use Rattle.cl_constraints.specs.Books.{TellsOf}
use Rattle.cl_model.specs.States.{AllMet, Need}
use Rattle.cl_hierarchy.specs.Imposed.{Listed, equal_need, needs_of}
use Rattle.cl_findings.proofs.References.{whole_taken}
use Rattle.cl_findings.proofs.Stood.{tells_some}
use Rattle.cl_findings.proofs.stands.list_stands.Goals as goal

pub returns-in-Some : goal.returns-in-Some
returns-in-Some g c =
    let e = c.in-Some.list.now.value in
    let look = c.in-Some.ensures.lookup in
    let at = slice_get_read c.args.lists.now _ c.args.at c.in-Some.list.now refl look.3.0 look.1 in
    let first = rw (c.needs-needs.ensures.needs, c.deref.ensures) at c.equalities_stand.ensures in
    let stands = g.X.Tables.stands_for c.args.tables.now in
    let all : TellsOf stands c.equalities_stand.result (λ s. AllMet s (needs_of e.needs)) =
    subst (λ (ns : List Need). TellsOf stands c.equalities_stand.result (λ s. AllMet s ns)) (whole_taken (needs_of e.needs) (length e.needs) (sym (length-map e.needs equal_need))) first in
    tells_some stands (λ s (x : Listed). AllMet s (needs_of x.needs)) _ e c.equalities_stand.result (slice_get-map (λ x. x.value) c.args.lists.now c.args.at ∙ ap (λ (o : Option _). option_map (λ x. x.value) o) at) all
