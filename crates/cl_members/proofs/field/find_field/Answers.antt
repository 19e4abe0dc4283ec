use Rattle.std.proofs.Common.{sym, ap, ◌∙◌}
use Rattle.std.specs.Prelude.{find, is_some, option_map}
use Rattle.cl_classfile.specs.Files.{file_of, field_key}
use Rattle.cl_classfile.specs.References.{plain_symbol}
use Rattle.cl_hierarchy.specs.Rows.{Rowed}
use Rattle.cl_hierarchy.specs.Lineages.{IsInOrder, IsRowIn, rows_in}
use Rattle.cl_members.specs.Members.{field_in}
use Rattle.cl_members.proofs.Inside.{find_all}
use Rattle.cl_members.proofs.Lists.{find_passes}
use Rattle.cl_members.proofs.Located.{field_reached, no_field}
use Rattle.cl_members.proofs.Owners.{has_flags}
use Rattle.cl_members.proofs.field.find_field.Goals as goal

pub returns-in-None : goal.returns-in-None
returns-in-None g c =
    let order : IsInOrder c.args.c.now = c.class.ensures.kept.order in
    let key = c.field_symbol-symbol.ensures c.requires.target c.requires.key c.requires.refers in
    let ordered = c.in_ok-order.ensures.order in
    no_field (λ r. r.value) c.args.d.now c.args.c.now c.args.index order c.requires (field_key (plain_symbol c.field_symbol-symbol.result)) key c.in_ok-order.order.items ordered
    (c.in-None.ensures ∙ ap (find (λ r. is_some (field_in (field_key (plain_symbol c.field_symbol-symbol.result)) (file_of r.value.file)))) c.as_slice.ensures.value)

pub access-requires : goal.access-requires
access-requires g c =
    let order : IsInOrder c.args.c.now = c.class.ensures.kept.order in
    let key = c.field_symbol-symbol.ensures c.requires.target c.requires.key c.requires.refers in
    let ordered = c.in_ok-order.ensures.order in
    field_reached (λ r. r.value) c.args.d.now c.args.c.now c.args.index (plain_symbol c.field_symbol-symbol.result) order c.requires key c.in_ok-order.order.items ordered c.in-Some.owner.now
    (c.in-Some.ensures ∙ ap (find (λ r. is_some (field_in (field_key (plain_symbol c.field_symbol-symbol.result)) (file_of r.value.file)))) c.as_slice.ensures.value) c.in-Some-field_flags.flags
    (c.in-Some-field_flags.ensures ∙ ap (λ (r : Rowed). option_map (λ m. m.flags) (field_in (field_key (plain_symbol c.field_symbol-symbol.result)) (file_of r.file))) c.deref.ensures)
    (find_all (λ r. IsRowIn (rows_in c.args.c.now) r.value) (λ r. is_some (field_in (field_key (plain_symbol c.field_symbol-symbol.result)) (file_of r.value.file))) c.in_ok-order.order.items c.in-Some.owner.now c.in_ok-order.ensures.rows
    (c.in-Some.ensures ∙ ap (find (λ r. is_some (field_in (field_key (plain_symbol c.field_symbol-symbol.result)) (file_of r.value.file)))) c.as_slice.ensures.value))

pub unreachable-requires : goal.unreachable-requires
unreachable-requires g c =
    has_flags (field_in (field_key (plain_symbol c.field_symbol-symbol.result)) (file_of c.in-Some.owner.now.value.file))
    (find_passes (λ r. is_some (field_in (field_key (plain_symbol c.field_symbol-symbol.result)) (file_of r.value.file))) c.as_slice.result.now c.in-Some.owner.now (sym c.in-Some.ensures))
    (c.in-None-field_flags.ensures ∙ ap (λ (r : Rowed). option_map (λ m. m.flags) (field_in (field_key (plain_symbol c.field_symbol-symbol.result)) (file_of r.file))) c.deref.ensures)
