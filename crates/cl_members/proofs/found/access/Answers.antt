use Rattle.std.proofs.Common.{refl, sym, ap, ◌∙◌}
use Rattle.cl_classfile.specs.References.{plain_symbol}
use Rattle.cl_hierarchy.specs.Rows.{Rowed}
use Rattle.cl_hierarchy.specs.Lineages.{kin_at}
use Rattle.cl_members.proofs.Located.{located_answers, located_copy, located_is, refused_is}
use Rattle.cl_members.proofs.found.access.Goals as goal

pub returns-then-not-member_accessible : goal.returns-then-not-member_accessible
returns-then-not-member_accessible g c =
    refused_is c.args.d.now c.args.c.now c.args.index (plain_symbol c.args.symbol) c.args.owner.now.value c.args.flags c.requires c.in_ok-try_clone.field-0
    (c.in_ok-try_clone.ensures ∙ c.class-then-not-member_accessible.ensures.class ∙ ap (λ (r : Rowed). r.class) c.deref-then-not-member_accessible.ensures)
    (sym c.if-not-member_accessible.true
    ∙ c.member_accessible.ensures (kin_at c.args.c.now c.args.owner.now.value) (sym (c.class.ensures.class ∙ ap (λ (r : Rowed). r.class) c.deref.ensures)))

pub invariant_of-result : goal.invariant_of-result
invariant_of-result g c =
    located_copy c.args.d.now c.args.c.now c.in_ok-try_clone-2.field-0 c.in_ok-try_clone-3.field-0 c.args.index c.args.owner.now.value c.in_ok-try_clone-4.field-0.value c.in_ok-key.key c.args.flags
    (sym c.in_ok-try_clone-2.ensures.clone) (sym c.in_ok-try_clone-3.ensures.clone) (sym c.in_ok-try_clone-4.ensures)
    (located_is c.args.d.now c.args.c.now c.args.index (plain_symbol c.args.symbol) c.args.owner.now.value c.args.flags c.requires c.in_ok-key.key c.in_ok-key.ensures
    (sym c.if-not-member_accessible.false
    ∙ c.member_accessible.ensures (kin_at c.args.c.now c.args.owner.now.value) (sym (c.class.ensures.class ∙ ap (λ (r : Rowed). r.class) c.deref.ensures))))

pub returns : goal.returns
returns g c = located_answers c.args.d.now c.args.c.now c.args.index _ (invariant_of-result g c) c.in_ok-try_clone-2.ensures.clone c.in_ok-try_clone-3.ensures.clone refl
