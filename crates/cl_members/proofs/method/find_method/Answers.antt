use Rattle.std.proofs.Common.{◌≡◌, false, Option, IfSome, sym, ap, subst, ◌∙◌}
use Rattle.std.specs.Prelude.{option_map}
use Rattle.cl_classfile.specs.Structure.{Structure}
use Rattle.cl_classfile.specs.Files.{file_of, is_interface, method_key}
use Rattle.cl_classfile.specs.References.{plain_symbol}
use Rattle.cl_hierarchy.specs.Rows.{Rowed}
use Rattle.cl_hierarchy.specs.Lineages.{IsRowIn, kin_at, kin_of, rows_in}
use Rattle.cl_members.specs.Members.{method_in}
use Rattle.cl_members.proofs.Located.{no_method, method_reached}
use Rattle.cl_members.proofs.Owners.{has_flags, method_declares}
use Rattle.cl_members.proofs.method.find_method.Goals as goal

pub access-requires : goal.access-requires
access-requires g c =
    let key = c.method_symbol-symbol.ensures c.requires.target c.requires.key c.requires.refers in
    let kind : false ≡ is_interface (kin_of c.args.c.now).file =
    sym c.if-is_interface.false ∙ c.is_interface.ensures
    ∙ ap (λ (f : Structure). is_interface (file_of f)) (
    c.deref-2.ensures ∙ c.file.ensures.file ∙ ap (λ (r : Rowed). r.file) (c.deref.ensures ∙ c.own.ensures.own)
    ) in
    let told = c.in_ok-method_owner.ensures.owner in
    method_reached c.args.d.now c.args.c.now c.args.index (plain_symbol c.method_symbol-symbol.result) c.requires kind key c.in-Some.owner.value
    (ap (option_map (λ r. kin_at c.args.c.now r.value)) (sym c.in-Some.is) ∙ told) c.in-Some-method_flags.flags
    (c.in-Some-method_flags.ensures ∙ ap (λ (r : Rowed). option_map (λ m. m.flags) (method_in (method_key (plain_symbol c.method_symbol-symbol.result)) (file_of r.file))) c.deref-in-Some.ensures)
    (subst (λ (o : Option _). IfSome o (λ r. IsRowIn (rows_in c.args.c.now) r.value)) c.in-Some.is c.in_ok-method_owner.ensures.row)

pub unreachable-requires : goal.unreachable-requires
unreachable-requires g c =
    let told = c.in_ok-method_owner.ensures.owner in
    has_flags (method_in (method_key (plain_symbol c.method_symbol-symbol.result)) (file_of c.in-Some.owner.value.file))
    (method_declares (method_key (plain_symbol c.method_symbol-symbol.result)) (kin_of c.args.c.now) (kin_at c.args.c.now c.in-Some.owner.value) (ap (option_map (λ r. kin_at c.args.c.now r.value)) (sym c.in-Some.is) ∙ told))
    (c.in-None-method_flags.ensures ∙ ap (λ (r : Rowed). option_map (λ m. m.flags) (method_in (method_key (plain_symbol c.method_symbol-symbol.result)) (file_of r.file))) c.deref-in-Some.ensures)

pub returns-in-None : goal.returns-in-None
returns-in-None g c =
    let key = c.method_symbol-symbol.ensures c.requires.target c.requires.key c.requires.refers in
    let kind : false ≡ is_interface (kin_of c.args.c.now).file =
    sym c.if-is_interface.false ∙ c.is_interface.ensures
    ∙ ap (λ (f : Structure). is_interface (file_of f)) (
    c.deref-2.ensures ∙ c.file.ensures.file ∙ ap (λ (r : Rowed). r.file) (c.deref.ensures ∙ c.own.ensures.own)
    ) in
    let told = c.in_ok-method_owner.ensures.owner in
    no_method c.args.d.now c.args.c.now c.args.index c.requires kind (method_key (plain_symbol c.method_symbol-symbol.result)) key (ap (option_map (λ r. kin_at c.args.c.now r.value)) (sym c.in-None.is) ∙ told)
