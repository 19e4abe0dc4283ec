use Rattle.std.proofs.Common.{◌≡◌, List, Ok, map, sym, ap, subst, ◌∙◌}
use Rattle.cl_classfile.specs.declared.raw.RawEntry.{RawEntry}
use Rattle.cl_classfile.specs.declared.traits.Traits.{Traits}
use Rattle.cl_classfile.specs.Structure.{Structure, IsClassFile}
use Rattle.cl_classfile.specs.Raw.{plain_entries, plain_file}
use Rattle.cl_classfile.specs.View.{plain_parts}
use Rattle.cl_classfile.specs.Rows.{entry_traits}
use Rattle.cl_classfile.specs.Checking.{checked_entries, checked_tables}
use Rattle.cl_classfile.proofs.Entries.{texts_held}
use Rattle.cl_classfile.proofs.Exact.{is_class_file}
use Rattle.cl_classfile.proofs.Mentioning.{mentions_alike}
use Rattle.cl_classfile.proofs.file.kept_file.Goals as goal

abbrev traits_of : List RawEntry → List Traits
traits_of raws = map entry_traits (plain_entries raws)

pub check_entries-requires-clause-traits : goal.check_entries-requires-clause-traits
check_entries-requires-clause-traits c = c.as_slice-2.ensures.value ∙ c.in_ok-traits.ensures ∙ ap traits_of (c.as_slice.ensures.value ∙ sym c.as_slice-3.ensures.value)

pub class_file-requires-clause-file : goal.class_file-requires-clause-file
class_file-requires-clause-file c =
    let f = plain_file c.args.file in
    let same : plain_parts c.in_ok-parts.parts ≡ f = c.in_ok-parts.ensures in
    let traits : c.as_slice-4.result.now ≡ map entry_traits f.pool = c.as_slice-4.ensures.value ∙ c.in_ok-traits.ensures ∙ ap traits_of c.as_slice.ensures.value in
    let rows : checked_entries f.version.major f.pool 1 f.pool ≡ Ok c.in_ok-check_entries.field-0 =
    ap (λ (rs : List RawEntry). checked_entries f.version.major (plain_entries rs) 1 (plain_entries rs)) (sym c.as_slice-3.ensures.value) ∙ c.in_ok-check_entries.ensures in
    let tables : checked_tables (map entry_traits f.pool) f.pool f ≡ Ok tt =
    ap (λ (ts : List Traits). checked_tables ts f.pool f) (sym traits) ∙ ap (λ (g : Structure). checked_tables c.as_slice-4.result.now g.pool g) (sym same) ∙ c.in_ok-index.ensures.tables in
    subst IsClassFile (sym same) (is_class_file f c.in_ok-check_entries.field-0 tt c.requires rows tables)

pub owned_parts-requires : goal.owned_parts-requires
owned_parts-requires c =
    let f = plain_file c.args.file in
    let rows : checked_entries f.version.major f.pool 1 f.pool ≡ Ok c.in_ok-check_entries.field-0 =
    ap (λ (rs : List RawEntry). checked_entries f.version.major (plain_entries rs) 1 (plain_entries rs)) (sym c.as_slice-3.ensures.value) ∙ c.in_ok-check_entries.ensures in
    texts_held f.version.major f.pool 1 f.pool c.in_ok-check_entries.field-0 rows

pub class_file-requires-clause-mentions : goal.class_file-requires-clause-mentions
class_file-requires-clause-mentions c = mentions_alike _ _ _ _ _ c.as_slice-5.ensures.value c.as_slice-6.ensures.value c.in_ok-mentions.ensures
