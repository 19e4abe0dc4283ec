-- The tests of the tables, and what they say.
use Rattle.std.proofs.Common.{◌≡◌, ℕ, ◌+◌, ◌^◌, ◌<◌, Bool, true, false, cond, not, ◌&&◌, eqb, List, [], ◌∷◌, length, map, Option, Some, None, Result, Ok, Err, refl, sym, ap, ◌∙◌, arith, inl, inr}
use Rattle.std.specs.Prelude.{is_some, bytes_eq}
use Rattle.std.specs.Bool.{Decides}
use Rattle.std.specs.List.{AllByRecursion}
use Rattle.std.specs.Cmp.Lexicographic.{same_text}
use Rattle.std.proofs.lemmas.Bool.{eqb-true, ltb-true}
use Rattle.cl_names.specs.Kind.{IsNameOf, IsClass}
use Rattle.cl_classfile.specs.declared.fault.Fault.TheVariants as faults
use Rattle.cl_classfile.specs.declared.version.Version.{Version}
use Rattle.cl_classfile.specs.Versions.{is_supported, VersionFits}
use Rattle.cl_classfile.specs.declared.entry.Entry.{Entry}
use Rattle.cl_classfile.specs.declared.entry.Entry.TheVariants.{Class}
use Rattle.cl_classfile.specs.declared.members.Kind.TheVariants as kinds
use Rattle.cl_classfile.specs.declared.fault.Fault.{Fault}
use Rattle.cl_classfile.specs.declared.fault.Fault.TheVariants.{BadFlags, BadMember, BadSupertype}
use Rattle.cl_classfile.specs.Flags.{has, interface, is_class_flags}
use Rattle.cl_classfile.specs.Pool.{EntryFits, KeepsEntry}
use Rattle.cl_classfile.specs.Structure.{owner_of, Structure, PoolFits, Fits, object, NamesClass, KeepsSuper, KeepsInterface, KeepsTables, IsClassFile}
use Rattle.cl_classfile.specs.Members.{AllFit, AttributeFits, MemberFits}
use Rattle.cl_classfile.specs.Widths.{is_short, all_fit, attribute_fits}
use Rattle.cl_classfile.specs.Files.{class_name}
use Rattle.cl_classfile.specs.Rows.{entry_traits, keeps_entry}
use Rattle.cl_names.specs.Steps.{◌>>=◌}
use Rattle.cl_classfile.specs.Checking.{checked_version, kept_entry, checked_entries, may_stand_above, keeps_super, keeps_names, keeps_interfaces, checked_class, checked_list, checked_attributes, checked_tables, kept_file, checked_pool, parts_of}
use Rattle.cl_classfile.proofs.Codec.{bind_ok, test_ok, ok_is, both}
use Rattle.cl_classfile.proofs.Fitting.{short_tells, all_tell, attributes_tell, pool_says, pool_told, within}
use Rattle.cl_classfile.proofs.Judging.{keeps_entry_says, keeps_entry_told, tests}
use Rattle.cl_classfile.proofs.MemberRows.{fields_say, fields_told, methods_say, methods_told}
use Rattle.cl_classfile.proofs.Classes.{Rows, class_says, class_named}
use Rattle.cl_classfile.proofs.Entries.{row_kept}

-- ---- all of the entries

rows_say : (major : ℕ) (pool : List Entry) (i : ℕ) (es : List Entry) (u : Unit {0}) → checked_entries major pool i es ≡ Ok u → AllByRecursion (KeepsEntry major pool) es
unfolding checked_entries
rows_say major pool i [] u h = tt
rows_say major pool i (e ∷ es) u h =
    let a = bind_ok (kept_entry major pool i e) (λ kept. checked_entries major pool (i + 1) es) u h in
    (keeps_entry_says major pool e (row_kept (keeps_entry major (map entry_traits pool) pool e) e a.0 i a.1), rows_say major pool (i + 1) es u a.2)

rows_told : (major : ℕ) (pool : List Entry) (i : ℕ) (es : List Entry) → AllByRecursion EntryFits es → AllByRecursion (KeepsEntry major pool) es → checked_entries major pool i es ≡ Ok tt
unfolding checked_entries
rows_told major pool i [] fits h = refl
rows_told major pool i (e ∷ es) fits h = rw (keeps_entry_told major pool e fits.0 h.0, rows_told major pool (i + 1) es fits.1 h.1) refl

-- ---- supertypes

some_is : {A : Type 0} (o : Option A) → is_some o ≡ true → (x : A) × (o ≡ Some x)
some_is None e = absurd cc
some_is (Some x) e = (x, refl)

is_object : (name : List ℕ) → name ≡ object → bytes_eq name object ≡ true
is_object name e = ap (λ (n : List ℕ). bytes_eq n object) e

-- what stands above: of an interface it is java/lang/Object
above_says : (pool : List Entry) → Rows pool → (of_interface : Bool) (super : ℕ) (o : Option (List ℕ)) → class_name pool super ≡ o → may_stand_above of_interface o ≡ true
    → (above : List ℕ) × NamesClass pool super above × (of_interface ≡ true → above ≡ object)
above_says pool rows of_interface super None e h = absurd cc
above_says pool rows false super (Some above) e h = (above, class_says pool super above rows e, λ is. absurd cc)
above_says pool rows true super (Some above) e h = (above, class_says pool super above rows e, λ is. same_text above object (sym h))

above_told : (of_interface : Bool) (above : List ℕ) → (of_interface ≡ true → above ≡ object) → may_stand_above of_interface (Some above) ≡ true
above_told false above h = refl
above_told true above h = is_object above (h refl)

no_interface : (of_interface : Bool) (b : Bool) → not of_interface && b ≡ true → (of_interface ≡ false) × (b ≡ true)
no_interface true b h = absurd cc
no_interface false b h = (refl, h)

super_says : (pool : List Entry) → Rows pool → (of_interface : Bool) (name : List ℕ) (super : ℕ) → keeps_super pool of_interface name super ≡ true → KeepsSuper pool of_interface name super
super_says pool rows of_interface name super h =
    elim (tests (bytes_eq name object)) [
      | inl e ↦ let k = no_interface of_interface (eqb super 0) (rw e at h) in inl (same_text name object (sym e), k.0, eqb-true super 0 k.1)
      | inr e ↦
          let a = above_says pool rows of_interface super (class_name pool super) refl (rw e at h) in
          inr (λ is. absurd (let f : true ≡ false = sym (is_object name is) ∙ e in cc), a.0, a.1, a.2)
    ]

super_told : (pool : List Entry) (of_interface : Bool) (name : List ℕ) (super : ℕ) → KeepsSuper pool of_interface name super → keeps_super pool of_interface name super ≡ true
super_told pool of_interface name super (inl h) = rw (is_object name h.0, h.1, h.2) refl
super_told pool of_interface name super (inr h) =
    elim (tests (bytes_eq name object)) [
      | inl e ↦ absurd (h.0 (same_text name object (sym e)))
      | inr e ↦ rw (e, class_named pool super h.1 h.2) (above_told of_interface h.1 h.3)
    ]

-- this_class and super_class keep the tables
record KeepsNames (pool : List Entry) (of_interface : Bool) (this super : ℕ) : Type 0 where
  name : List ℕ
  this_class : NamesClass pool this name
  super_class : KeepsSuper pool of_interface name super

names_say : (pool : List Entry) → Rows pool → (of_interface : Bool) (this super : ℕ) (o : Option (List ℕ)) → class_name pool this ≡ o → keeps_names pool of_interface super o ≡ true → KeepsNames pool of_interface this super
names_say pool rows of_interface this super None e h = absurd cc
names_say pool rows of_interface this super (Some name) e h = record { name = name; this_class = class_says pool this name rows e; super_class = super_says pool rows of_interface name super h }

interface_tells : (pool : List Entry) → Rows pool → (i : ℕ) → Decides (is_some (class_name pool i)) (KeepsInterface pool i)
interface_tells pool rows i = (λ h. let a = some_is (class_name pool i) h in (a.0, class_says pool i a.0 rows a.1), λ h. ap is_some (class_named pool i h.0 h.1))

-- ---- indices are within the pool

super_within : (pool : List Entry) → length pool + 1 < 2 ^ 16 → (of_interface : Bool) (name : List ℕ) (super : ℕ) → KeepsSuper pool of_interface name super → super < 2 ^ 16
super_within pool few of_interface name super (inl h) = omega (arith, h.2)
super_within pool few of_interface name super (inr h) = within pool super (Class h.2.index) few h.2.is_entry

interfaces_within : (pool : List Entry) → length pool + 1 < 2 ^ 16 → (interfaces : List ℕ) → AllByRecursion (KeepsInterface pool) interfaces → AllByRecursion (λ i. i < 2 ^ 16) interfaces
interfaces_within pool few [] h = tt
interfaces_within pool few (i ∷ is) h = (within pool i (Class h.0.1.index) few h.0.1.is_entry, interfaces_within pool few is h.1)

-- ---- the file

checks_say : (flags kept : Bool) (u : Unit {0}) → cond flags (cond kept (Ok tt) (Err BadSupertype)) (Err BadFlags) ≡ Ok u → (flags ≡ true) × (kept ≡ true)
checks_say true true u h = (refl, refl)
checks_say true false u h = absurd cc
checks_say false kept u h = absurd cc

abbrev class_checked : Structure → Result (Unit {0}) Fault
class_checked f = checked_class f.version.major f.pool f.flags f.this_class f.super_class f.interfaces

abbrev fields_checked : Structure → Result (Unit {0}) Fault
fields_checked f = checked_list kinds.Field (map entry_traits f.pool) (owner_of f) f.pool f.fields

abbrev methods_checked : Structure → Result (Unit {0}) Fault
methods_checked f = checked_list kinds.Method (map entry_traits f.pool) (owner_of f) f.pool f.methods

-- a file whose tests were passed keeps the tables, and what stands behind its pool fits its widths
pub record IsTested (f : Structure) : Type 0 where
  pub kept : KeepsTables f
  pub flags : f.flags < 2 ^ 16
  pub interfaces : length f.interfaces < 2 ^ 16
  pub fields : AllFit MemberFits f.fields
  pub methods : AllFit MemberFits f.methods
  pub attributes : AllFit AttributeFits f.attributes

tested : (f : Structure) (u c d e v : Unit {0}) → checked_entries f.version.major f.pool 1 f.pool ≡ Ok u → class_checked f ≡ Ok c → fields_checked f ≡ Ok d → methods_checked f ≡ Ok e → checked_attributes f.attributes ≡ Ok v → IsTested f
tested f u c d e v rows class fields methods attributes =
    let of_interface = has f.flags interface in
    let entries : Rows f.pool = (f.version.major, rows_say f.version.major f.pool 1 f.pool u rows) in
    let names = keeps_names f.pool of_interface f.super_class (class_name f.pool f.this_class) in
    let a = checks_say (is_short f.flags && is_class_flags f.version.major f.flags) (names && keeps_interfaces f.pool f.interfaces) c class in
    let flags = both (is_short f.flags) (is_class_flags f.version.major f.flags) a.0 in
    let k = both names (keeps_interfaces f.pool f.interfaces) a.1 in
    let n = names_say f.pool entries of_interface f.this_class f.super_class (class_name f.pool f.this_class) refl k.0 in
    let interfaces = (all_tell (λ i. is_some (class_name f.pool i)) (KeepsInterface f.pool) (interface_tells f.pool entries) f.interfaces).0 k.1 in
    let each_field = fields_say f.pool (owner_of f) f.fields d fields in
    let each_method = methods_say f.pool (owner_of f) f.methods e methods in
    let some_attributes = test_ok (all_fit attribute_fits f.attributes) BadMember tt v attributes in
    record {
      kept = record {
        pool = entries.1;
        flags = flags.1;
        name = n.name;
        this_class = n.this_class;
        super_class = n.super_class;
        interfaces = interfaces.1;
        fields = each_field.kept;
        methods = each_method.kept;
      };
      flags = ltb-true f.flags (2 ^ 16) flags.0;
      interfaces = interfaces.0;
      fields = each_field.fits;
      methods = each_method.fits;
      attributes = (attributes_tell f.attributes).0 some_attributes.0;
    }

pub tables_say : (f : Structure) (u v : Unit {0}) → checked_entries f.version.major f.pool 1 f.pool ≡ Ok u → checked_tables (map entry_traits f.pool) f.pool f ≡ Ok v → IsTested f
unfolding checked_tables
tables_say f u v rows tables =
    let b = bind_ok (class_checked f) (λ class. fields_checked f >>= λ fields. (methods_checked f >>= λ methods. checked_attributes f.attributes)) v tables in
    let d = bind_ok (fields_checked f) (λ fields. methods_checked f >>= λ methods. checked_attributes f.attributes) v b.2 in
    let m = bind_ok (methods_checked f) (λ methods. checked_attributes f.attributes) v d.2 in
    tested f u b.0 d.0 m.0 v rows b.1 d.1 m.1 m.2

-- a file that passes the tests is answered as it is
pub file_says : (f g : Structure) → kept_file f ≡ Ok g → (f ≡ g) × IsTested f
unfolding kept_file
file_says f g h =
    let a = bind_ok (checked_entries f.version.major f.pool 1 f.pool) (λ entries. checked_tables (map entry_traits f.pool) f.pool f >>= λ tables. Ok f) g h in
    let b = bind_ok (checked_tables (map entry_traits f.pool) f.pool f) (λ tables. Ok f) g a.2 in
    (ok_is f g b.2, tables_say f a.0 b.0 a.1 b.1)

pub file_told : (f : Structure) → Fits f → KeepsTables f → kept_file f ≡ Ok f
unfolding kept_file checked_tables
file_told f fits kept =
    let of_interface = has f.flags interface in
    let named : class_name f.pool f.this_class ≡ Some kept.name = class_named f.pool f.this_class kept.name kept.this_class in
    let super = super_told f.pool of_interface kept.name f.super_class kept.super_class in
    let interfaces = (all_tell (λ i. is_some (class_name f.pool i)) (KeepsInterface f.pool) (interface_tells f.pool (f.version.major, kept.pool)) f.interfaces).1 (fits.interfaces.0, kept.interfaces) in
    let class : class_checked f ≡ Ok tt = rw ((short_tells f.flags).1 fits.flags, kept.flags, named, super, interfaces) refl in
    let fields : fields_checked f ≡ Ok tt = fields_told f.pool (owner_of f) f.fields fits.fields kept.fields in
    let methods : methods_checked f ≡ Ok tt = methods_told f.pool (owner_of f) f.methods fits.methods kept.methods in
    let attributes : checked_attributes f.attributes ≡ Ok tt = rw ((attributes_tell f.attributes).1 fits.attributes) refl in
    rw (rows_told f.version.major f.pool 1 f.pool fits.pool.1 kept.pool, class, fields, methods, attributes) refl

-- ---- parts that no bytes were read for

version_picked : (v : Version) (u : Unit {0}) (b c d : Bool) → is_short v.minor ≡ b → is_short v.major ≡ c → is_supported v ≡ d → cond (b && c && d) (Ok tt) (Err faults.Version) ≡ Ok u → VersionFits v
version_picked v u true true true e f g h = record { minor = (short_tells v.minor).0 e; major = (short_tells v.major).0 f; supported = g }
version_picked v u false c d e f g h = absurd cc
version_picked v u true false d e f g h = absurd cc
version_picked v u true true false e f g h = absurd cc

version_says : (v : Version) (u : Unit {0}) → checked_version v ≡ Ok u → VersionFits v
version_says v u h = version_picked v u (is_short v.minor) (is_short v.major) (is_supported v) refl refl refl h

pub version_told : (v : Version) → VersionFits v → checked_version v ≡ Ok tt
version_told v h = rw ((short_tells v.minor).1 h.minor, (short_tells v.major).1 h.major, h.supported) refl

fitting : (f : Structure) → VersionFits f.version → PoolFits f.pool → IsTested f → Fits f
fitting f version pool t = record {
  version = version;
  pool = pool;
  flags = t.flags;
  this_class = within f.pool f.this_class (Class t.kept.this_class.index) pool.0 t.kept.this_class.is_entry;
  super_class = super_within f.pool pool.0 (has f.flags interface) t.kept.name f.super_class t.kept.super_class;
  interfaces = (t.interfaces, interfaces_within f.pool pool.0 f.interfaces t.kept.interfaces);
  fields = t.fields;
  methods = t.methods;
  attributes = t.attributes;
}

-- parts that pass the tests are a class file's
pub parts_say : (f g : Structure) → parts_of f ≡ Ok g → (f ≡ g) × IsClassFile f
unfolding parts_of
parts_say f g h =
    let w = bind_ok (checked_version f.version) (λ version. checked_pool f.pool >>= λ pool. kept_file f) g h in
    let a = bind_ok (checked_pool f.pool) (λ pool. kept_file f) g w.2 in
    let b = file_says f g a.2 in
    (b.0, record { fits = fitting f (version_says f.version w.0 w.1) (pool_says f.pool a.0 a.1) b.1; kept = b.1.kept })

pub parts_told : (f : Structure) → Fits f → KeepsTables f → parts_of f ≡ Ok f
unfolding parts_of
parts_told f fits kept = rw (version_told f.version fits.version, pool_told f.pool fits.pool) (file_told f fits kept)

-- what a class of the pool is called is a class's name
pub named_well : (f : Structure) → KeepsTables f → (i : ℕ) (name : List ℕ) → class_name f.pool i ≡ Some name → IsNameOf IsClass name
named_well f kept i name h = (class_says f.pool i name (f.version.major, kept.pool) h).is_name
