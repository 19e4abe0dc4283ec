-- Reading from left to right, with the first fault that is met.
use Rattle.std.specs.Prelude.{
  ℕ,
  ℤ,
  zero,
  suc,
  ◌+◌,
  ◌-◌,
  Bool,
  false,
  List,
  [],
  ◌∷◌,
  length,
  take,
  drop,
  Result,
  Ok,
  Err,
  nat_lt,
  nat_le,
  ◌==◌,
  if◌then◌else◌,
}
use Rattle.std.specs.Int.{Width, w16, w32, w64, byte_len, from_be_bytes, cast_signed}
use Rattle.cl_classfile.specs.declared.version.Version as versions
use Rattle.cl_classfile.specs.Versions.{is_supported}
use Rattle.cl_classfile.specs.declared.entry.Entry.{Entry}
use Rattle.cl_classfile.specs.declared.entry.Entry.TheVariants.{
  Utf8,
  Integer,
  Float,
  Long,
  Double,
  Unusable,
  Class,
  String,
  Fieldref,
  Methodref,
  InterfaceMethodref,
  NameAndType,
  MethodHandle,
  MethodType,
  InvokeDynamic,
}
use Rattle.cl_classfile.specs.declared.fault.Fault.{Fault}
use Rattle.cl_classfile.specs.declared.fault.Fault.TheVariants.{
  BadMagic,
  Version,
  Truncated,
  Trailing,
  BadPool,
}
use Rattle.cl_classfile.specs.Pool.{is_wide}
use Rattle.cl_classfile.specs.Tags as tags
use Rattle.cl_classfile.specs.Structure.{Structure, MemberInfo, Attribute}
use Rattle.cl_names.specs.Steps.{◌>>=◌}
use Rattle.cl_classfile.specs.Checking.{kept_file}

-- ---- readers, and how they are put together

-- a reader takes a value from the front: a way to say in what order the bytes are read
abbrev pub Reader : Type 0 → Type 0
Reader A = List ℕ → Result (A × List ℕ) Fault

-- a number of so many bytes, the high one first (JVMS SE 8, 4)
abbrev pub number_at : Width → Reader ℕ
number_at w bytes =
    if nat_lt (length bytes) (byte_len w)
    then Err Truncated
    else Ok (from_be_bytes w (take (byte_len w) bytes), drop (byte_len w) bytes)

-- that many bytes (4)
abbrev pub bytes_at : ℕ → Reader (List ℕ)
bytes_at n bytes =
    if nat_lt (length bytes) n then Err Truncated else Ok (take n bytes, drop n bytes)

-- one field, and then another that may depend on it
abbrev pub then_at : {A B : Type 0} → Reader A → (A → Reader B) → Reader (A × B)
then_at r q bytes = r bytes >>= λ x. (q x.0 x.1 >>= λ y. Ok ((x.0, y.0), y.1))

-- a field that passes a test, or else this fault
abbrev pub test_at : {A : Type 0} → Reader A → (A → Bool) → Fault → Reader A
test_at r test fault bytes = r bytes >>= λ x. (if test x.0 then Ok x else Err fault)

-- a field seen in another way
abbrev pub map_at : {A B : Type 0} → Reader A → (A → B) → Reader B
map_at r view bytes = r bytes >>= λ x. Ok (view x.0, x.1)

-- that many of a structure, each read where the ones before it say (4: a table)
unfoldable pub many_at : {C A : Type 0} → (C → Reader A) → (C → A → C) → ℕ → C → Reader (List A)
many_at step next zero c bytes = Ok ([], bytes)
many_at step next (suc n) c bytes =
    step c bytes >>= λ x. (many_at step next n (next c x.0) x.1 >>= λ y. Ok (x.0 ∷ y.0, y.1))

-- a length, and that many bytes (4.4.7, 4.7)
abbrev pub sized_at : Width → Reader (List ℕ)
sized_at w bytes = number_at w bytes >>= λ n. bytes_at n.0 n.1

-- that many of a structure that is read the same way wherever it stands (4: a table)
abbrev pub each_at : {A : Type 0} → Reader A → ℕ → Reader (List A)
each_at r n = many_at {C = ℕ} (λ i. r) (λ i a. i) n 0

-- a count, and that many of a structure (4.1)
abbrev pub counted_at : {A : Type 0} → Reader A → Reader (List A)
counted_at r bytes = number_at w16 bytes >>= λ n. each_at r n.0 n.1

-- ---- the structures of a class file (JVMS SE 8, 4.1, 4.4)

-- the magic (4.1)
unfoldable pub magic_at : Reader ℕ
magic_at = test_at (number_at w32) (λ n. n == 0xcafebabe) BadMagic

-- two numbers of two bytes (4.1, 4.4.2, 4.4.6, 4.4.10)
unfoldable pub two_at : Reader (ℕ × ℕ)
two_at = then_at (number_at w16) (λ first. number_at w16)

-- the version, its minor number first (4.1)
unfoldable pub version_at : Reader versions.Version
version_at = test_at (map_at two_at (λ v. record { major = v.1; minor = v.0 })) is_supported Version

-- the magic and the version (4.1)
unfoldable pub header_at : Reader (ℕ × versions.Version)
header_at = then_at magic_at (λ magic. version_at)

-- two bytes of length, and that many bytes of text (4.4.7)
unfoldable pub utf8_at : Reader (List ℕ)
utf8_at bytes = sized_at w16 bytes

-- one byte (4)
unfoldable pub byte_at : Reader ℕ
byte_at [] = Err Truncated
byte_at (b ∷ rest) = Ok (b, rest)

-- a number in two's complement (4.4.4, 4.4.5)
unfoldable pub signed_at : Width → Reader ℤ
signed_at w = map_at (number_at w) (cast_signed w)

-- a kind and an index (4.4.8)
unfoldable pub handle_at : Reader (ℕ × ℕ)
handle_at = then_at byte_at (λ kind. number_at w16)

-- what takes the index behind i too, of which n is the last (4.4.5)
abbrev pub wide_at : ℕ → ℕ → Reader Entry → Reader Entry
wide_at n i r bytes = if nat_lt i n then r bytes else Err (BadPool i)

-- behind the tag of the entry at index i, of which n is the last (table 4.4-A)
unfoldable pub tagged_at : ℕ → ℕ → ℕ → Reader Entry
tagged_at n i tag rest =
    if tag == tags.utf8
    then map_at utf8_at (λ text. Utf8 text) rest
    else if tag == tags.integer
    then map_at (signed_at w32) (λ value. Integer value) rest
    else if tag == tags.float
    then map_at (number_at w32) (λ bits. Float bits) rest
    else if tag == tags.long
    then wide_at n i (map_at (signed_at w64) (λ value. Long value)) rest
    else if tag == tags.double
    then wide_at n i (map_at (number_at w64) (λ bits. Double bits)) rest
    else if tag == tags.class
    then map_at (number_at w16) (λ text. Class text) rest
    else if tag == tags.string
    then map_at (number_at w16) (λ text. String text) rest
    else if tag == tags.fieldref
    then map_at two_at (λ p. Fieldref p.0 p.1) rest
    else if tag == tags.methodref
    then map_at two_at (λ p. Methodref p.0 p.1) rest
    else if tag == tags.interface_methodref
    then map_at two_at (λ p. InterfaceMethodref p.0 p.1) rest
    else if tag == tags.name_and_type
    then map_at two_at (λ p. NameAndType p.0 p.1) rest
    else if tag == tags.method_handle
    then map_at handle_at (λ p. MethodHandle p.0 p.1) rest
    else if tag == tags.method_type
    then map_at (number_at w16) (λ descriptor. MethodType descriptor) rest
    else if tag == tags.invoke_dynamic
    then map_at two_at (λ p. InvokeDynamic p.0 p.1) rest
    else Err (BadPool i)

-- the entry at index i, of which n is the last (4.4)
unfoldable pub entry_at : ℕ → ℕ → Reader Entry
entry_at n i [] = Err Truncated
entry_at n i (tag ∷ rest) = tagged_at n i tag rest

-- at an index and behind such an entry: the index behind a long or a double is unusable (4.4.5)
unfoldable pub slot_at : ℕ → ℕ × Bool → Reader Entry
slot_at n place bytes = if place.1 then Ok (Unusable, bytes) else entry_at n place.0 bytes

-- the place behind an entry (4.4.5)
abbrev pub next_place : ℕ × Bool → Entry → ℕ × Bool
next_place place e = (place.0 + 1, is_wide e)

-- that many entries, the first of them at index 1 (4.1, 4.4)
unfoldable pub entries_at : ℕ → Reader (List Entry)
entries_at n = many_at (slot_at n) next_place n (1, false)

-- the count of the pool, which is one more than its entries are, and they (4.1)
unfoldable pub pool_at : Reader (List Entry)
pool_at bytes =
    test_at (number_at w16) (λ n. nat_le 1 n) (BadPool 0) bytes >>= λ n. entries_at (n.0 - 1) n.1

-- the flags, this_class and super_class (4.1)
unfoldable pub class_at : Reader (ℕ × (ℕ × ℕ))
class_at = then_at (number_at w16) (λ flags. two_at)

-- the interfaces (4.1)
unfoldable pub interfaces_at : Reader (List ℕ)
interfaces_at = counted_at (number_at w16)

-- a name, a length, and that many bytes (JVMS SE 8, 4.7)
unfoldable pub attribute_at : Reader Attribute
attribute_at =
    map_at (then_at (number_at w16) (λ name. sized_at w32))
    (λ p. record { name_index = p.0; bytes = p.1 })

-- attributes (4.7)
unfoldable pub attributes_at : Reader (List Attribute)
attributes_at = counted_at attribute_at

-- a field or a method (JVMS SE 8, 4.5, 4.6)
unfoldable pub member_at : Reader MemberInfo
member_at =
    map_at
    (then_at (number_at w16)
    (λ flags. then_at (number_at w16)
    (λ name. then_at (number_at w16) (λ descriptor. attributes_at))))
    (λ p. record
    { flags = p.0; name_index = p.1.0; descriptor_index = p.1.1.0; attributes = p.1.1.1 })

-- fields or methods (4.5, 4.6)
unfoldable pub members_at : Reader (List MemberInfo)
members_at = counted_at member_at

-- the fields, the methods and the class's attributes (4.1)
unfoldable pub tables_at : Reader (List MemberInfo × (List MemberInfo × List Attribute))
tables_at = then_at members_at (λ fields. then_at members_at (λ methods. attributes_at))

-- what is read in order: the header, the pool, the class, the interfaces, the tables (4.1)
abbrev pub FileParts : Type 0
FileParts =
    (ℕ × versions.Version)
    × (List Entry
    × ((ℕ × (ℕ × ℕ)) × (List ℕ × (List MemberInfo × (List MemberInfo × List Attribute)))))

-- the same, read (4.1)
unfoldable pub parts_at : Reader FileParts
parts_at =
    then_at header_at
    (λ header. then_at pool_at
    (λ pool. then_at class_at (λ class. then_at interfaces_at (λ interfaces. tables_at))))

-- these as a class file (4.1)
abbrev pub structure_of : FileParts → Structure
structure_of p = record {
  version = p.0.1;
  pool = p.1.0;
  flags = p.1.1.0.0;
  this_class = p.1.1.0.1.0;
  super_class = p.1.1.0.1.1;
  interfaces = p.1.1.1.0;
  fields = p.1.1.1.1.0;
  methods = p.1.1.1.1.1.0;
  attributes = p.1.1.1.1.1.1;
}

-- a class file (4.1)
unfoldable pub structure_at : Reader Structure
structure_at = map_at parts_at structure_of

-- a class file that all of the bytes are (4.1, 4.8)
unfoldable pub whole_of : List ℕ → Result Structure Fault
whole_of bytes = structure_at bytes >>= λ x. (if length x.1 == 0 then Ok x.0 else Err Trailing)

-- the file that the bytes spell, or its first fault (4.1, 4.8)
unfoldable pub read_of : List ℕ → Result Structure Fault
read_of bytes = whole_of bytes >>= kept_file
