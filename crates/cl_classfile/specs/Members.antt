-- Fields, methods and attributes: how they are spelled, and what their tables ask
-- (JVMS SE 8, 4.5 to 4.7).
use Rattle.std.specs.Prelude.{
  ◌≤◌,
  IsTrue,
  ℕ,
  ◌+◌,
  ◌<◌,
  ◌^◌,
  Bool,
  List,
  [],
  ◌∷◌,
  ◌++◌,
  length,
  if◌then◌else◌,
}
use Rattle.std.specs.List.{flat_map, AllByRecursion}
use Rattle.std.specs.Int.{w16, w32, to_be_bytes}
use Rattle.cl_names.specs.Kind.{IsNameOf, IsUnqualified, IsMethod, init, clinit}
use Rattle.cl_descriptors.specs.Types.{units_of_method}
use Rattle.cl_descriptors.specs.Answers as descriptors
use Rattle.cl_classfile.specs.declared.entry.Entry.{Entry}
use Rattle.cl_classfile.specs.Flags.{has, static, is_field_flags, is_method_flags, is_init_flags}
use Rattle.cl_classfile.specs.declared.version.Owner.{Owner}
use Rattle.cl_classfile.specs.Pool.{IsText, HasText}
use Rattle.cl_descriptors.specs.declared.limits.TheConstants.{MOST_UNITS}
use Rattle.cl_descriptors.specs.Answers.{IsFieldDescriptor}

-- ---- the parts

-- an attribute: what it is called, and its bytes (4.7)
pub record Attribute : Type 0 where
  pub name_index : ℕ
  pub bytes : List ℕ

-- a field or a method (4.5, 4.6)
pub record MemberInfo : Type 0 where
  pub flags : ℕ
  pub name_index : ℕ
  pub descriptor_index : ℕ
  pub attributes : List Attribute

-- ---- the one spelling of each

-- how many there are, and each of them (4.1)
abbrev pub counted_list : {A : Type 0} → (A → List ℕ) → List A → List ℕ
counted_list spell xs = to_be_bytes w16 (length xs) ++ flat_map spell xs

-- the bytes of an attribute (4.7; own choice that its name and its bytes are not looked at)
abbrev pub attribute_spelling : Attribute → List ℕ
attribute_spelling a = to_be_bytes w16 a.name_index ++ (to_be_bytes w32 (length a.bytes) ++ a.bytes)

-- the bytes of a field or a method (4.5, 4.6)
abbrev pub member_spelling : MemberInfo → List ℕ
member_spelling m =
    to_be_bytes w16 m.flags
    ++ (to_be_bytes w16 m.name_index
    ++ (to_be_bytes w16 m.descriptor_index ++ counted_list attribute_spelling m.attributes))

-- ---- what the widths hold

-- as many as a count can say, and each of them fits (4.1)
abbrev pub AllFit : {A : Type 0} → (A → Type 0) → List A → Type 0
AllFit Fits xs = (length xs < 2 ^ 16) × AllByRecursion Fits xs

-- each item of an attribute is such as its width can say (4.7)
pub record AttributeFits (a : Attribute) : Type 0 where
  pub name_index : a.name_index < 2 ^ 16
  pub bytes : length a.bytes < 2 ^ 32

-- each item of a field or a method is such as its width can say (4.5, 4.6)
pub record MemberFits (m : MemberInfo) : Type 0 where
  pub flags : m.flags < 2 ^ 16
  pub name_index : m.name_index < 2 ^ 16
  pub descriptor_index : m.descriptor_index < 2 ^ 16
  pub attributes : AllFit AttributeFits m.attributes

-- ---- what the tables ask

-- a field's name is unqualified (4.5)
pub record KeepsField (pool : List Entry) (of_interface : Bool) (m : MemberInfo) : Type 0 where
  pub flags : IsTrue (is_field_flags of_interface m.flags)
  pub name : HasText pool m.name_index (IsNameOf IsUnqualified)
  pub descriptor : HasText pool m.descriptor_index IsFieldDescriptor

-- the parameters count not too many units, with one for this where the method is of an instance
-- (4.3.3)
abbrev pub TakesUnits : Bool → List ℕ → Type 0
TakesUnits of_class text =
    descriptors.SpellsSomeMethod text
    (λ m. descriptors.IsMethodType m × (units_of_method m + (if of_class then 0 else 1) ≤ MOST_UNITS))

-- the flags of <clinit> are not looked at; those of <init> are more narrow (4.6; own choice for <clinit>)
pub record KeepsMethod (pool : List Entry) (owner : Owner) (m : MemberInfo) : Type 0 where
  pub flags : (IsText pool m.name_index clinit → ⊥) → IsTrue (is_method_flags owner m.flags)
  pub init_flags : IsText pool m.name_index init → IsTrue (is_init_flags m.flags)
  pub name : HasText pool m.name_index (IsNameOf IsMethod)
  pub descriptor : HasText pool m.descriptor_index (TakesUnits (has m.flags static))

-- the texts at two indices are the same (4.4.7)
pub record SameText (pool : List Entry) (i j : ℕ) : Type 0 where
  pub text : List ℕ
  pub first : IsText pool i text
  pub second : IsText pool j text

-- two members agree in name and descriptor (4.5, 4.6)
pub record SameMember (pool : List Entry) (a b : MemberInfo) : Type 0 where
  pub name : SameText pool a.name_index b.name_index
  pub descriptor : SameText pool a.descriptor_index b.descriptor_index

-- none of the members agrees with one before it, nor with one of these (4.5, 4.6)
abbrev pub AreNew : List Entry → List MemberInfo → List MemberInfo → Type 0
AreNew pool before [] = Unit {0}
AreNew pool before (m ∷ ms) =
    AllByRecursion (λ e. SameMember pool e m → ⊥) before × AreNew pool (before ++ m ∷ []) ms

-- each member keeps its table, and no two agree (4.5, 4.6)
pub record KeepMembers (Keeps : MemberInfo → Type 0) (pool : List Entry) (ms : List MemberInfo)
    : Type 0 where
  pub each : AllByRecursion Keeps ms
  pub new : AreNew pool [] ms
