use Rattle.std.proofs.Common.{◌≡◌, sym, ap, ◌∙◌}
use Rattle.cl_hierarchy.specs.Imposed.{Listed, needs_of}
use Rattle.cl_hierarchy.specs.Lineages.{Lined, kin_of}
use Rattle.cl_hierarchy.specs.Rows.{Rowed}
use Rattle.cl_members.specs.Asking.{LocatedMember}
use Rattle.cl_members.proofs.Located.{are_of, are_of_copy, imposed_in}
use Rattle.cl_members.proofs.found.equalities.Goals as goal

pub of_reference-requires : goal.of_reference-requires
of_reference-requires g c =
    let index : c.found.inside.index ≡ c.args.found.now.index = ap (λ (f : LocatedMember). f.index) c.found.view_is in
    let file : c.deref-2.result.now ≡ c.args.found.now.d.own.file =
    c.deref-2.ensures ∙ c.file.ensures.file ∙ ap (λ (r : Rowed). r.file) (c.deref.ensures ∙ c.own.ensures.own ∙ ap (λ (l : Lined). l.own) c.d.ensures.d) in
    let owner = c.class.ensures.class ∙ ap (λ (r : Rowed). r.class) (c.deref-3.ensures ∙ c.owner.ensures.owner) in
    let from = c.class-2.ensures.class ∙ ap (λ (l : Lined). (kin_of l).class) c.d-2.ensures.d in
    are_of_copy c.args.found.now.d c.in_ok-d.d c.args.found.now.c c.in_ok-c.c c.args.found.now.index c.found.inside.index (needs_of c.in_ok-needs.needs.items)
    (sym (c.in_ok-d.ensures.clone ∙ c.d-3.ensures.d)) (sym (c.in_ok-c.ensures.clone ∙ c.c.ensures.c)) (sym index)
    (are_of c.args.found.now c.d.ensures.kept (needs_of c.in_ok-needs.needs.items)
    (imposed_in c.args.found.now c.d.ensures.kept c.deref-2.result.now c.found.inside.index c.in_ok-names.names.items c.class.result.now c.class-2.result.now (needs_of c.in_ok-needs.needs.items) file index c.in_ok-names.ensures owner from c.in_ok-needs.ensures))

pub returns-clause-needs : goal.returns-clause-needs
returns-clause-needs g c =
    let file : c.deref-2.result.now ≡ c.args.found.now.d.own.file =
    c.deref-2.ensures ∙ c.file.ensures.file ∙ ap (λ (r : Rowed). r.file) (c.deref.ensures ∙ c.own.ensures.own ∙ ap (λ (l : Lined). l.own) c.d.ensures.d) in
    let owner = c.class.ensures.class ∙ ap (λ (r : Rowed). r.class) (c.deref-3.ensures ∙ c.owner.ensures.owner) in
    let from = c.class-2.ensures.class ∙ ap (λ (l : Lined). (kin_of l).class) c.d-2.ensures.d in
    ap (λ (e : Listed). needs_of e.needs) c.of_reference.ensures
    ∙ imposed_in c.args.found.now c.d.ensures.kept c.deref-2.result.now c.found.inside.index c.in_ok-names.names.items c.class.result.now c.class-2.result.now (needs_of c.in_ok-needs.needs.items) file (ap (λ (f : LocatedMember). f.index) c.found.view_is) c.in_ok-names.ensures owner from c.in_ok-needs.ensures
