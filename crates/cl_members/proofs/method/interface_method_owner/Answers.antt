use Rattle.std.proofs.Common.{◌≡◌, false, Option, Some, None, sym, ap, subst, ◌∙◌, true}
use Rattle.std.specs.Prelude.{find, is_some, option_map}
use Rattle.std.proofs.lemmas.Result.{IfOk-weaker}
use Rattle.cl_classfile.specs.Files.{file_of, method_key}
use Rattle.cl_classfile.specs.References.{plain_symbol}
use Rattle.cl_model.specs.Lineages.{Kin, has_public, superclasses}
use Rattle.cl_hierarchy.specs.Rows.{Rowed}
use Rattle.cl_hierarchy.specs.Lineages.{IsRowIn, kin_at, kin_of, rows_in}
use Rattle.cl_members.specs.Members.{method_in}
use Rattle.cl_members.proofs.Inside.{find_all, own_inside}
use Rattle.cl_members.proofs.Lists.{among_is}
use Rattle.cl_members.proofs.Owners.{public_is, beyond_public, own_of_interface}
use Rattle.cl_members.proofs.method.interface_method_owner.Goals as goal

pub returns-then-has_method-clause-owner : goal.returns-then-has_method-clause-owner
returns-then-has_method-clause-owner g c =
    let there : true ≡ is_some (method_in (method_key (plain_symbol c.args.symbol)) (kin_of c.args.c.now).file) =
    sym c.if-has_method.true ∙ c.has_method.ensures ∙ ap (λ (r : Rowed). is_some (method_in (method_key (plain_symbol c.args.symbol)) (file_of r.file))) (c.deref.ensures ∙ c.own.ensures.own) in
    ap (λ (r : Rowed). let made : Option Kin = Some (kin_at c.args.c.now r) in made) (c.in_ok-try_clone.ensures ∙ c.own-then-has_method.ensures.own)
    ∙ own_of_interface (method_key (plain_symbol c.args.symbol)) (kin_of c.args.c.now) there

pub returns-in-Some-clause-owner : goal.returns-in-Some-clause-owner
returns-in-Some-clause-owner g c =
    let none : false ≡ is_some (method_in (method_key (plain_symbol c.args.symbol)) (kin_of c.args.c.now).file) =
    sym c.if-has_method.false ∙ c.has_method.ensures ∙ ap (λ (r : Rowed). is_some (method_in (method_key (plain_symbol c.args.symbol)) (file_of r.file))) (c.deref.ensures ∙ c.own.ensures.own) in
    ap (λ (r : Rowed). let made : Option Kin = Some (kin_at c.args.c.now r) in made) c.in_ok-try_clone-in-Some.ensures
    ∙ public_is (method_key (plain_symbol c.args.symbol)) (kin_of c.args.c.now) (kin_at c.args.c.now c.in-Some.owner.now.value) none
    (among_is (λ r. kin_at c.args.c.now r.value) (λ a. has_public (method_in (method_key (plain_symbol c.args.symbol)) a.file)) c.in_ok-above.above.items (superclasses (kin_of c.args.c.now)) (Some c.in-Some.owner.now) c.in_ok-above.ensures.superclasses
    (c.in-Some.ensures ∙ ap (find (λ r. has_public (method_in (method_key (plain_symbol c.args.symbol)) (file_of r.value.file)))) c.as_slice.ensures.value))

pub returns-clause-owner : goal.returns-clause-owner
returns-clause-owner g c =
    let none : false ≡ is_some (method_in (method_key (plain_symbol c.args.symbol)) (kin_of c.args.c.now).file) =
    sym c.if-has_method.false ∙ c.has_method.ensures ∙ ap (λ (r : Rowed). is_some (method_in (method_key (plain_symbol c.args.symbol)) (file_of r.file))) (c.deref.ensures ∙ c.own.ensures.own) in
    let nowhere = among_is (λ r. kin_at c.args.c.now r.value) (λ a. has_public (method_in (method_key (plain_symbol c.args.symbol)) a.file)) c.in_ok-above.above.items (superclasses (kin_of c.args.c.now)) None c.in_ok-above.ensures.superclasses
    (c.in-None.ensures ∙ ap (find (λ r. has_public (method_in (method_key (plain_symbol c.args.symbol)) (file_of r.value.file)))) c.as_slice.ensures.value) in
    IfOk-weaker c.interface_owner.result _ _ (λ o e. beyond_public (method_key (plain_symbol c.args.symbol)) (kin_of c.args.c.now) (option_map (λ r. kin_at c.args.c.now r.value) o) none nowhere e) c.interface_owner.ensures.owner

pub returns-then-has_method-clause-row : goal.returns-then-has_method-clause-row
returns-then-has_method-clause-row g c = own_inside c.args.c.now c.in_ok-try_clone.field-0.value c.own-then-has_method.ensures.kept.order (c.in_ok-try_clone.ensures ∙ c.own-then-has_method.ensures.own)

pub returns-in-Some-clause-row : goal.returns-in-Some-clause-row
returns-in-Some-clause-row g c =
    subst (λ (r : Rowed). IsRowIn (rows_in c.args.c.now) r) (sym c.in_ok-try_clone-in-Some.ensures)
    (find_all (λ r. IsRowIn (rows_in c.args.c.now) r.value) (λ r. has_public (method_in (method_key (plain_symbol c.args.symbol)) (file_of r.value.file))) c.in_ok-above.above.items c.in-Some.owner.now c.in_ok-above.ensures.rows
    (c.in-Some.ensures ∙ ap (find (λ r. has_public (method_in (method_key (plain_symbol c.args.symbol)) (file_of r.value.file)))) c.as_slice.ensures.value))
