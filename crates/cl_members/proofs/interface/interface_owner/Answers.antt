use Rattle.std.proofs.Common.{List, map, not, sym, ap, subst, ◌∙◌}
use Rattle.std.specs.Prelude.{filter, option_map}
use Rattle.std.specs.Option.{option_or}
use Rattle.std.specs.List.{AllByRecursion}
use Rattle.std.proofs.lemmas.Result.{IfOk-weaker}
use Rattle.cl_classfile.specs.Files.{file_of, method_key}
use Rattle.cl_classfile.specs.References.{plain_symbol}
use Rattle.cl_model.specs.Classes.{is_among}
use Rattle.cl_model.specs.Lineages.{first, implements, only}
use Rattle.cl_hierarchy.specs.Lineages.{IsRowIn, kin_at, kin_of, rows_in}
use Rattle.cl_hierarchy.specs.Rows.{Rowed}
use Rattle.cl_hierarchy.specs.Several.{superinterfaces_of_any}
use Rattle.cl_members.specs.Members.{method_in}
use Rattle.cl_members.proofs.Inside.{first_all, only_all}
use Rattle.cl_members.proofs.Lists.{all_kept}
use Rattle.cl_members.proofs.Maximal.{finished, left_is}
use Rattle.cl_members.proofs.interface.interface_owner.Goals as goal

pub returns-clause-owner : goal.returns-clause-owner
returns-clause-owner g c =
    let left = ap (map (λ r. kin_at c.args.c.now r.value)) (
    c.keep_implementing.ensures ∙ ap (filter (λ r. implements (method_in (method_key (plain_symbol c.args.symbol)) (file_of r.value.file)))) c.keep_apart.ensures
    )
    ∙ left_is (λ r. kin_at c.args.c.now r.value) (method_key (plain_symbol c.args.symbol)) (kin_of c.args.c.now) c.in_ok-rows.rows.items (λ x. is_among c.in_ok-beneath.beneath.keys x) c.in_ok-rows.ensures.kins
    (λ x. c.in_ok-beneath.ensures x ∙ ap (λ (rs : List _). is_among (superinterfaces_of_any (map (λ r. kin_at c.args.c.now r.value) rs)) x) c.as_slice-2.ensures.value) in
    IfOk-weaker c.only_or.result _ _ (λ o e.
    finished (λ r. r.value) c.args.c.now (method_key (plain_symbol c.args.symbol)) o c.in_ok-first.first c.keep_implementing.new.rows.items c.in_ok-rows.rows.items
    (e ∙ ap (λ (rs : List _). option_or (only (map (λ r. r.value) rs)) (option_map (λ r. r.value) c.in_ok-first.first)) c.as_slice-3.ensures.value)
    (c.in_ok-first.ensures ∙ ap (λ (rs : List _). first (map (λ r. r.value) rs)) c.as_slice.ensures.value) c.in_ok-rows.ensures.kins left) c.only_or.ensures

pub returns-clause-row : goal.returns-clause-row
returns-clause-row g c =
    let inside = λ (r : Rowed). IsRowIn (rows_in c.args.c.now) r in
    let fallback = first_all (λ r. r.value) inside c.in_ok-rows.rows.items c.in_ok-first.first c.in_ok-rows.ensures.rows (c.in_ok-first.ensures ∙ ap (λ (rs : List _). first (map (λ r. r.value) rs)) c.as_slice.ensures.value) in
    let left = subst (λ (rs : List _). AllByRecursion (λ r. inside r.value) rs)
    (sym (c.keep_implementing.ensures ∙ ap (filter (λ r. implements (method_in (method_key (plain_symbol c.args.symbol)) (file_of r.value.file)))) c.keep_apart.ensures))
    (all_kept (λ r. inside r.value) (λ r. implements (method_in (method_key (plain_symbol c.args.symbol)) (file_of r.value.file))) _
    (all_kept (λ r. inside r.value) (λ r. not (is_among c.in_ok-beneath.beneath.keys r.value.class)) c.in_ok-rows.rows.items c.in_ok-rows.ensures.rows)) in
    IfOk-weaker c.only_or.result _ _ (λ o e.
    only_all (λ r. r.value) inside c.keep_implementing.new.rows.items o c.in_ok-first.first left fallback
    (e ∙ ap (λ (rs : List _). option_or (only (map (λ r. r.value) rs)) (option_map (λ r. r.value) c.in_ok-first.first)) c.as_slice-3.ensures.value)) c.only_or.ensures
