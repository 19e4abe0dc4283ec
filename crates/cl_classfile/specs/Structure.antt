-- What a class file is, and how it is spelled (JVMS SE 8, 4.1).
use Rattle.std.specs.Prelude.{
  ◌≡◌,
  ◌≢◌,
  ◌⊎◌,
  ◌≤◌,
  IsTrue,
  IsFalse,
  ℕ,
  Bool,
  ◌+◌,
  ◌<◌,
  ◌^◌,
  false,
  List,
  [],
  ◌∷◌,
  ◌++◌,
  length,
  take,
  drop,
  Some,
  codes,
}
use Rattle.std.specs.List.{flat_map, AllByRecursion}
use Rattle.std.specs.Int.{w16, to_be_bytes}
use Rattle.cl_names.specs.Kind.{IsNameOf, IsClass}
use Rattle.cl_classfile.specs.declared.entry.Entry.{Entry}
use Rattle.cl_classfile.specs.declared.entry.Entry.TheVariants.{Class}
use Rattle.cl_classfile.specs.Pool.{entry_spelling, EntryFits, AreSpaced, IsText, KeepsEntry}
pub use Rattle.cl_classfile.specs.Pool.{at}
use Rattle.cl_classfile.specs.Flags.{has, interface, is_class_flags}
use Rattle.cl_classfile.specs.declared.version.Owner.{Owner}
use Rattle.cl_classfile.specs.declared.version.Version.{Version}
use Rattle.cl_classfile.specs.Versions.{version_spelling, SpellsOther, VersionFits}
pub use Rattle.cl_classfile.specs.Members.{
  Attribute,
  MemberInfo,
  counted_list,
  attribute_spelling,
  member_spelling,
  AllFit,
  AttributeFits,
  MemberFits,
}
use Rattle.cl_classfile.specs.Members.{KeepsField, KeepsMethod, KeepMembers}

-- ---- the parts

-- a class file without its magic and its counts, which are what they have to be (4.1)
pub record Structure : Type 0 where
  pub version : Version
  pub pool : List Entry
  pub flags : ℕ
  pub this_class : ℕ
  pub super_class : ℕ
  pub interfaces : List ℕ
  pub fields : List MemberInfo
  pub methods : List MemberInfo
  pub attributes : List Attribute

-- ---- the one spelling of each

-- the pool's count is one more than that of its entries (4.1)
abbrev pub pool_spelling : List Entry → List ℕ
pool_spelling pool = to_be_bytes w16 (length pool + 1) ++ flat_map entry_spelling pool

-- the magic (4.1)
abbrev pub magic : List ℕ
magic = 0xca ∷ 0xfe ∷ 0xba ∷ 0xbe ∷ []

-- the bytes of a whole file, item after item (4.1)
abbrev pub spelling : Structure → List ℕ
spelling f =
    magic
    ++ (version_spelling f.version
    ++ (pool_spelling f.pool
    ++ (to_be_bytes w16 f.flags
    ++ (to_be_bytes w16 f.this_class
    ++ (to_be_bytes w16 f.super_class
    ++ (counted_list (to_be_bytes w16) f.interfaces
    ++ (counted_list member_spelling f.fields
    ++
    (counted_list member_spelling f.methods ++ counted_list attribute_spelling f.attributes))))))))

-- ---- what the widths hold

-- the indices that a long or a double takes are there (4.4.5)
abbrev pub PoolFits : List Entry → Type 0
PoolFits pool = (length pool + 1 < 2 ^ 16) × AllByRecursion EntryFits pool × AreSpaced false pool

-- each item is such as its width can say (4.1)
pub record Fits (f : Structure) : Type 0 where
  pub version : VersionFits f.version
  pub pool : PoolFits f.pool
  pub flags : f.flags < 2 ^ 16
  pub this_class : f.this_class < 2 ^ 16
  pub super_class : f.super_class < 2 ^ 16
  pub interfaces : AllFit (λ i. i < 2 ^ 16) f.interfaces
  pub fields : AllFit MemberFits f.fields
  pub methods : AllFit MemberFits f.methods
  pub attributes : AllFit AttributeFits f.attributes

-- ---- what the tables ask

-- the entry at the index is a class of this name, and no array (4.4.1)
pub record NamesClass (pool : List Entry) (i : ℕ) (name : List ℕ) : Type 0 where
  pub index : ℕ
  pub is_entry : at pool i ≡ Some (Class index)
  pub named : IsText pool index name
  pub is_name : IsNameOf IsClass name

-- java/lang/Object (4.1)
abbrev pub object : List ℕ
object = codes "java/lang/Object"

-- super_class is 0 exactly in java/lang/Object, which is no interface; of any other it is a class,
-- and of an interface java/lang/Object (4.1; own choice that it is 0 in java/lang/Object)
abbrev pub KeepsSuper : List Entry → Bool → List ℕ → ℕ → Type 0
KeepsSuper pool of_interface name super =
    ((name ≡ object) × IsFalse of_interface × (super ≡ 0))
    ⊎ ((name ≡ object → ⊥) × (above : List ℕ) × NamesClass pool super above
    × (IsTrue of_interface → above ≡ object))

-- an interface of the class is a class of the pool (4.1; own choice that one may be listed twice)
abbrev pub KeepsInterface : List Entry → ℕ → Type 0
KeepsInterface pool i = (name : List ℕ) × NamesClass pool i name

-- whose members the file's are (4.1)
abbrev pub owner_of : Structure → Owner
owner_of f = record { of_interface = has f.flags interface; major = f.version.major }

-- the file keeps the tables of entries, flags, supertypes and members (4.1, 4.4 to 4.6)
pub record KeepsTables (f : Structure) : Type 0 where
  pub pool : AllByRecursion (KeepsEntry f.version.major f.pool) f.pool
  pub flags : IsTrue (is_class_flags f.version.major f.flags)
  pub name : List ℕ
  pub this_class : NamesClass f.pool f.this_class name
  pub super_class : KeepsSuper f.pool (has f.flags interface) name f.super_class
  pub interfaces : AllByRecursion (KeepsInterface f.pool) f.interfaces
  pub fields : KeepMembers (KeepsField f.pool (has f.flags interface)) f.pool f.fields
  pub methods : KeepMembers (KeepsMethod f.pool (owner_of f)) f.pool f.methods

-- what a class file that was read is (4.1)
pub record IsClassFile (f : Structure) : Type 0 where
  pub fits : Fits f
  pub kept : KeepsTables f

-- the numbers are those of bytes (4)
abbrev pub AreBytes : List ℕ → Type 0
AreBytes bytes = AllByRecursion (λ b. b < 2 ^ 8) bytes

-- the bytes spell the file, which keeps the tables (4.1)
pub record Spells (bytes : List ℕ) (f : Structure) : Type 0 where
  pub file : IsClassFile f
  pub spelled : bytes ≡ spelling f

-- ---- the two faults of the header

-- four bytes stand, and are not the magic (4.1)
abbrev pub HasOtherMagic : List ℕ → Type 0
HasOtherMagic bytes = (4 ≤ length bytes) × (take 4 bytes ≢ magic)

-- eight bytes stand, the magic and a version that is not read (4.1)
abbrev pub HasOtherVersion : List ℕ → Type 0
HasOtherVersion bytes =
    (8 ≤ length bytes) × (take 4 bytes ≡ magic) × SpellsOther (take 4 (drop 4 bytes))
