-- Each reader of a structure takes what spells it, and reads again what was spelled.
use Rattle.std.proofs.Common.{◌≡◌, ℕ, ◌^◌, ◌<◌, true, eqb, List, ◌++◌, length, refl, sym, ap, subst, ◌∙◌, append_assoc, arith}
use Rattle.std.specs.Int.{w16, w32, to_be_bytes}
use Rattle.std.specs.List.{flat_map}
use Rattle.std.proofs.lemmas.Bool.{eqb-true}
use Rattle.cl_classfile.specs.declared.fault.Fault.TheVariants as faults
use Rattle.cl_classfile.specs.declared.fault.Fault.TheVariants.{BadMagic}
use Rattle.cl_classfile.specs.declared.version.Version.{Version}
use Rattle.cl_classfile.specs.Versions.{is_supported, version_spelling, NumbersFit, VersionFits}
use Rattle.cl_classfile.specs.Structure.{Structure, counted_list, pool_spelling, member_spelling, attribute_spelling, magic, spelling, AllFit, PoolFits, AttributeFits, MemberFits, Fits}
use Rattle.cl_classfile.specs.Reading.{Reader, number_at, then_at, map_at, sized_at, each_at, counted_at, magic_at, version_at, header_at, pool_at, class_at, interfaces_at, attribute_at, attributes_at, member_at, members_at, tables_at, FileParts, parts_at, structure_of, structure_at, two_at}
use Rattle.cl_classfile.proofs.Codec.{bind_ok, Takes, Takes-then, IsCodec, number16, number32, also, sized, tested, mapped, many, EachFits, each_of_all, all_of_each}
use Rattle.cl_classfile.proofs.Pooled.{pool}

-- ---- the parts of the file

abbrev pub numbers_spelling : ℕ × ℕ → List ℕ
numbers_spelling v = to_be_bytes w16 v.0 ++ to_be_bytes w16 v.1

-- two numbers, as a version
pub numbers : IsCodec (map_at two_at (λ v. record { major = v.1; minor = v.0 })) version_spelling NumbersFit
unfolding two_at
numbers =
    mapped (then_at (number_at w16) (λ first. number_at w16)) numbers_spelling (λ v. (v.0 < 2 ^ 16) × (v.1 < 2 ^ 16)) (λ v. record { major = v.1; minor = v.0 }) (λ v. (v.minor, v.major)) version_spelling NumbersFit
    (also (number_at w16) (number_at w16) (to_be_bytes w16) (to_be_bytes w16) (λ n. n < 2 ^ 16) (λ n. n < 2 ^ 16) number16 number16)
    (λ v h. (refl, h)) (λ v h. (h, refl, refl))

abbrev pub header_spelling : ℕ × Version → List ℕ
header_spelling p = to_be_bytes w32 p.0 ++ version_spelling p.1

abbrev pub HeaderFits : ℕ × Version → Type 0
HeaderFits p = ((p.0 < 2 ^ 32) × (eqb p.0 0xcafebabe ≡ true)) × (NumbersFit p.1 × (is_supported p.1 ≡ true))

pub header : IsCodec header_at header_spelling HeaderFits
unfolding header_at magic_at version_at
header =
    also magic_at version_at _ _ _ _
    (tested (number_at w32) (to_be_bytes w32) (λ n. n < 2 ^ 32) (λ n. eqb n 0xcafebabe) BadMagic number32)
    (tested (map_at two_at (λ v. record { major = v.1; minor = v.0 })) version_spelling NumbersFit is_supported faults.Version numbers)

-- the header that is read has one spelling
header_says : (p : ℕ × Version) → HeaderFits p → header_spelling p ≡ magic ++ version_spelling p.1
header_says p h = ap (λ (n : ℕ). to_be_bytes w32 n ++ version_spelling p.1) (eqb-true p.0 0xcafebabe h.0.1)

header_fits : (v : Version) → VersionFits v → HeaderFits (0xcafebabe, v)
header_fits v h = ((omega arith, refl), ((h.minor, h.major), h.supported))

abbrev class_spelling : ℕ × (ℕ × ℕ) → List ℕ
class_spelling p = to_be_bytes w16 p.0 ++ (to_be_bytes w16 p.1.0 ++ to_be_bytes w16 p.1.1)

abbrev ClassFits : ℕ × (ℕ × ℕ) → Type 0
ClassFits p = (p.0 < 2 ^ 16) × ((p.1.0 < 2 ^ 16) × (p.1.1 < 2 ^ 16))

class : IsCodec class_at class_spelling ClassFits
unfolding class_at two_at
class = also (number_at w16) (then_at (number_at w16) (λ this. number_at w16)) _ _ _ _ number16 (also (number_at w16) (number_at w16) _ _ _ _ number16 number16)

each : {A : Type 0} (r : Reader A) (s : A → List ℕ) (F : A → Type 0) → IsCodec r s F → (n : ℕ) → IsCodec (each_at r n) (flat_map s) (λ xs. (length xs ≡ n) × EachFits {C = ℕ} (λ i. F) (λ i a. i) 0 xs)
each r s F c n = many {C = ℕ} (λ i. r) (λ i a. i) s (λ i. F) (λ i. c) n 0

counts : {A : Type 0} (r : Reader A) (s : A → List ℕ) (F : A → Type 0) → IsCodec r s F → IsCodec (counted_at r) (counted_list s) (AllFit F)
counts r s F c = record {
  takes = λ bytes x fits e.
      let a = bind_ok (number_at w16 bytes) (λ n. each_at r n.0 n.1) x e in
      let one = number16.takes bytes a.0 fits a.1 in
      let two = (each r s F c a.0.0).takes a.0.1 x one.0.rest_fits a.2 in
      let whole = Takes-then bytes (to_be_bytes w16 a.0.0) a.0.1 (flat_map s x.0) x.1 one.0 two.0 in
      (subst (λ (k : ℕ). Takes bytes (to_be_bytes w16 k ++ flat_map s x.0) x.1) (sym two.1.0) whole, (omega (arith, two.1.0, one.1), all_of_each {C = ℕ} F (λ i a. i) 0 x.0 two.1.1));
  again = λ xs rest h.
      ap (counted_at r) (append_assoc (to_be_bytes w16 (length xs)) (flat_map s xs) rest)
      ∙ rw (number16.again (length xs) (flat_map s xs ++ rest) h.0, (each r s F c (length xs)).again xs rest (refl, each_of_all {C = ℕ} F (λ i a. i) 0 xs h.1)) refl;
}

interfaces : IsCodec interfaces_at (counted_list (to_be_bytes w16)) (AllFit (λ i. i < 2 ^ 16))
unfolding interfaces_at
interfaces = counts (number_at w16) (to_be_bytes w16) (λ i. i < 2 ^ 16) number16

attribute : IsCodec attribute_at attribute_spelling AttributeFits
unfolding attribute_at
attribute =
    mapped _ _ _ (λ p. record { name_index = p.0; bytes = p.1 }) (λ a. (a.name_index, a.bytes)) attribute_spelling AttributeFits
    (also (number_at w16) (sized_at w32) _ _ _ _ number16 (sized w32 (2 ^ 32) number32))
    (λ p h. (refl, record { name_index = h.0; bytes = h.1 }))
    (λ a h. ((h.name_index, h.bytes), refl, refl))

attributes : IsCodec attributes_at (counted_list attribute_spelling) (AllFit AttributeFits)
unfolding attributes_at
attributes = counts attribute_at attribute_spelling AttributeFits attribute

member : IsCodec member_at member_spelling MemberFits
unfolding member_at
member =
    mapped _ _ _ (λ p. record { flags = p.0; name_index = p.1.0; descriptor_index = p.1.1.0; attributes = p.1.1.1 }) (λ m. (m.flags, (m.name_index, (m.descriptor_index, m.attributes)))) member_spelling MemberFits
    (also (number_at w16) _ _ _ _ _ number16 (also (number_at w16) _ _ _ _ _ number16 (also (number_at w16) attributes_at _ _ _ _ number16 attributes)))
    (λ p h. (refl, record { flags = h.0; name_index = h.1.0; descriptor_index = h.1.1.0; attributes = h.1.1.1 }))
    (λ m h. ((h.flags, (h.name_index, (h.descriptor_index, h.attributes))), refl, refl))

members : IsCodec members_at (counted_list member_spelling) (AllFit MemberFits)
unfolding members_at
members = counts member_at member_spelling MemberFits member

tables : IsCodec tables_at (λ p. counted_list member_spelling p.0 ++ (counted_list member_spelling p.1.0 ++ counted_list attribute_spelling p.1.1)) (λ p. AllFit MemberFits p.0 × (AllFit MemberFits p.1.0 × AllFit AttributeFits p.1.1))
unfolding tables_at
tables = also members_at (then_at members_at (λ methods. attributes_at)) _ _ _ _ members (also members_at attributes_at _ _ _ _ members attributes)

abbrev PartsFit : FileParts → Type 0
PartsFit p = HeaderFits p.0 × (PoolFits p.1.0 × (ClassFits p.1.1.0 × (AllFit (λ i. i < 2 ^ 16) p.1.1.1.0 × (AllFit MemberFits p.1.1.1.1.0 × (AllFit MemberFits p.1.1.1.1.1.0 × AllFit AttributeFits p.1.1.1.1.1.1)))))

abbrev parts_spelling : FileParts → List ℕ
parts_spelling p =
    header_spelling p.0
    ++ (pool_spelling p.1.0
    ++ (class_spelling p.1.1.0
    ++ (counted_list (to_be_bytes w16) p.1.1.1.0
    ++ (counted_list member_spelling p.1.1.1.1.0 ++ (counted_list member_spelling p.1.1.1.1.1.0 ++ counted_list attribute_spelling p.1.1.1.1.1.1)))))

parts : IsCodec parts_at parts_spelling PartsFit
unfolding parts_at
parts = also header_at _ _ _ _ _ header (also pool_at _ _ _ _ _ pool (also class_at _ _ _ _ _ class (also interfaces_at tables_at _ _ _ _ interfaces tables)))

abbrev parts_of : Structure → FileParts
parts_of f = ((0xcafebabe, f.version), (f.pool, ((f.flags, (f.this_class, f.super_class)), (f.interfaces, (f.fields, (f.methods, f.attributes))))))

joined : (header version pool flags this super rest : List ℕ) → header ≡ magic ++ version → header ++ (pool ++ ((flags ++ (this ++ super)) ++ rest)) ≡ magic ++ (version ++ (pool ++ (flags ++ (this ++ (super ++ rest)))))
joined header version pool flags this super rest e = rw e (simp append_assoc)

-- the parts' spelling is the file's
there : (p : FileParts) → HeaderFits p.0 → parts_spelling p ≡ spelling (structure_of p)
there p h =
    joined (header_spelling p.0) (version_spelling p.0.1) (pool_spelling p.1.0) (to_be_bytes w16 p.1.1.0.0) (to_be_bytes w16 p.1.1.0.1.0) (to_be_bytes w16 p.1.1.0.1.1)
    (counted_list (to_be_bytes w16) p.1.1.1.0 ++ (counted_list member_spelling p.1.1.1.1.0 ++ (counted_list member_spelling p.1.1.1.1.1.0 ++ counted_list attribute_spelling p.1.1.1.1.1.1))) (header_says p.0 h)

says : (p : FileParts) → PartsFit p → Fits (structure_of p)
says p h = record {
  version = record { minor = h.0.1.0.0; major = h.0.1.0.1; supported = h.0.1.1 };
  pool = h.1.0;
  flags = h.1.1.0.0;
  this_class = h.1.1.0.1.0;
  super_class = h.1.1.0.1.1;
  interfaces = h.1.1.1.0;
  fields = h.1.1.1.1.0;
  methods = h.1.1.1.1.1.0;
  attributes = h.1.1.1.1.1.1;
}

pub structure : IsCodec structure_at spelling Fits
unfolding structure_at
structure =
    mapped parts_at parts_spelling PartsFit structure_of parts_of spelling Fits parts (λ p h. (there p h.0, says p h))
    (λ f h. ((header_fits f.version h.version, (h.pool, ((h.flags, (h.this_class, h.super_class)), (h.interfaces, (h.fields, (h.methods, h.attributes)))))), there (parts_of f) (header_fits f.version h.version), refl))
