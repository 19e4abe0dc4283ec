-- The entries of the pool: how each is spelled, and what its row of the table asks
-- (JVMS SE 8, 4.4).
use Rattle.std.specs.Prelude.{
  ◌≡◌,
  ◌≢◌,
  ◌⊎◌,
  ◌≤◌,
  ◌&&◌,
  ◌||◌,
  ◌==◌,
  nat_le,
  IsTrue,
  ℕ,
  zero,
  suc,
  ◌<◌,
  ◌^◌,
  Bool,
  true,
  false,
  FitsSigned,
  List,
  [],
  ◌∷◌,
  ◌++◌,
  length,
  Option,
  Some,
  None,
  slice_get,
}
use Rattle.std.specs.Int.{w16, w32, w64, to_be_bytes, cast_unsigned}
use Rattle.cl_names.specs.Text.{IsModifiedUtf8}
use Rattle.cl_names.specs.Kind.{IsNameOf, IsUnqualified, IsMethod, IsClass, init, clinit}
use Rattle.cl_classfile.specs.Tags as tags
use Rattle.cl_classfile.specs.declared.entry.Entry.{Entry}
use Rattle.cl_classfile.specs.declared.entry.Entry.TheVariants.{
  Utf8,
  Integer,
  Float,
  Long,
  Double,
  Unusable,
  Class,
  String,
  Fieldref,
  Methodref,
  InterfaceMethodref,
  NameAndType,
  MethodHandle,
  MethodType,
  InvokeDynamic,
}
use Rattle.cl_descriptors.specs.Answers.{
  IsFieldDescriptor,
  IsArrayDescriptor,
  IsMethodDescriptor,
  IsVoidDescriptor,
}

-- ---- the one spelling of each: its tag, and what follows it (table 4.4-A)

-- two indices, one after the other (4.4)
abbrev pub two_indices : ℕ → ℕ → List ℕ
two_indices a b = to_be_bytes w16 a ++ to_be_bytes w16 b

-- the tag of an entry, and what follows it (4.4)
abbrev pub entry_spelling : Entry → List ℕ
entry_spelling (Utf8 text) = tags.utf8 ∷ (to_be_bytes w16 (length text) ++ text)
entry_spelling (Integer value) = tags.integer ∷ to_be_bytes w32 (cast_unsigned w32 value)
entry_spelling (Float bits) = tags.float ∷ to_be_bytes w32 bits
entry_spelling (Long value) = tags.long ∷ to_be_bytes w64 (cast_unsigned w64 value)
entry_spelling (Double bits) = tags.double ∷ to_be_bytes w64 bits
entry_spelling Unusable = []
entry_spelling (Class text) = tags.class ∷ to_be_bytes w16 text
entry_spelling (String text) = tags.string ∷ to_be_bytes w16 text
entry_spelling (Fieldref class pair) = tags.fieldref ∷ two_indices class pair
entry_spelling (Methodref class pair) = tags.methodref ∷ two_indices class pair
entry_spelling (InterfaceMethodref class pair) = tags.interface_methodref ∷ two_indices class pair
entry_spelling (NameAndType name descriptor) = tags.name_and_type ∷ two_indices name descriptor
entry_spelling (MethodHandle kind reference) = tags.method_handle ∷ kind ∷ to_be_bytes w16 reference
entry_spelling (MethodType descriptor) = tags.method_type ∷ to_be_bytes w16 descriptor
entry_spelling (InvokeDynamic bootstrap pair) = tags.invoke_dynamic ∷ two_indices bootstrap pair

-- ---- what the widths hold

-- an index is a number of two bytes (4.1)
abbrev pub IsIndex : ℕ → Type 0
IsIndex i = i < 2 ^ 16

-- what follows the tag is such as its width can say (4.4)
abbrev pub EntryFits : Entry → Type 0
EntryFits (Utf8 text) = length text < 2 ^ 16
EntryFits (Integer value) = FitsSigned w32 value
EntryFits (Float bits) = bits < 2 ^ 32
EntryFits (Long value) = FitsSigned w64 value
EntryFits (Double bits) = bits < 2 ^ 64
EntryFits Unusable = Unit {0}
EntryFits (Class text) = IsIndex text
EntryFits (String text) = IsIndex text
EntryFits (Fieldref class pair) = IsIndex class × IsIndex pair
EntryFits (Methodref class pair) = IsIndex class × IsIndex pair
EntryFits (InterfaceMethodref class pair) = IsIndex class × IsIndex pair
EntryFits (NameAndType name descriptor) = IsIndex name × IsIndex descriptor
EntryFits (MethodHandle kind reference) = (kind < 2 ^ 8) × IsIndex reference
EntryFits (MethodType descriptor) = IsIndex descriptor
EntryFits (InvokeDynamic bootstrap pair) = IsIndex bootstrap × IsIndex pair

-- a long and a double take the index behind them too (4.4.5)
abbrev pub is_wide : Entry → Bool
is_wide (Long value) = true
is_wide (Double bits) = true
is_wide _ = false

-- the index behind a wide entry is there and unusable, and no other is (4.4.5)
abbrev pub AreSpaced : Bool → List Entry → Type 0
AreSpaced false [] = Unit {0}
AreSpaced true [] = ⊥
AreSpaced false (e ∷ es) = (e ≢ Unusable) × AreSpaced (is_wide e) es
AreSpaced true (e ∷ es) = (e ≡ Unusable) × AreSpaced false es

-- ---- what stands at an index

-- from 1 on (4.1)
abbrev pub at : {A : Type 0} → List A → ℕ → Option A
at pool zero = None
at pool (suc i) = slice_get pool i

-- the entry at the index is this text (4.4.7)
abbrev pub IsText : List Entry → ℕ → List ℕ → Type 0
IsText pool i text = at pool i ≡ Some (Utf8 text)

-- it is a text of this kind (4.4.7)
pub record HasText (pool : List Entry) (i : ℕ) (Kind : List ℕ → Type 0) : Type 0 where
  pub text : List ℕ
  pub is_text : IsText pool i text
  pub kind : Kind text

-- it is a class, or an array (4.4.1)
pub record HasClass (pool : List Entry) (i : ℕ) : Type 0 where
  pub text : ℕ
  pub is_entry : at pool i ≡ Some (Class text)

-- it is a name and type with a descriptor of this kind (4.4.6)
pub record HasPair (pool : List Entry) (i : ℕ) (Kind : List ℕ → Type 0) : Type 0 where
  pub name : ℕ
  pub descriptor : ℕ
  pub is_entry : at pool i ≡ Some (NameAndType name descriptor)
  pub described : HasText pool descriptor Kind

-- it is a name and type of this name (4.4.6)
pub record IsNameAndType (pool : List Entry) (i : ℕ) (text : List ℕ) : Type 0 where
  pub name : ℕ
  pub descriptor : ℕ
  pub is_entry : at pool i ≡ Some (NameAndType name descriptor)
  pub named : IsText pool name text

-- ---- what the table asks of each kind

-- a class's name, or the descriptor of an array (4.4.1)
abbrev pub NamesType : List ℕ → Type 0
NamesType text = IsNameOf IsClass text ⊎ IsArrayDescriptor text

-- the name, if it begins with <, is <init>, and the descriptor returns nothing (4.4.2)
abbrev pub MayCall : List Entry → ℕ → Type 0
MayCall pool i =
    (rest : List ℕ) → IsNameAndType pool i (0x3c ∷ rest)
    → (0x3c ∷ rest ≡ init) × HasPair pool i IsVoidDescriptor

-- it is a name that a programmer may write (4.4.8)
abbrev pub HasPlainName : List Entry → ℕ → Type 0
HasPlainName pool i = (IsNameAndType pool i init → ⊥) × (IsNameAndType pool i clinit → ⊥)

-- a name and its descriptor go together (4.4.6; own choice for the names of methods)
abbrev pub MayPair : List Entry → ℕ → ℕ → Type 0
MayPair pool name descriptor =
    (HasText pool descriptor IsFieldDescriptor × HasText pool name (IsNameOf IsUnqualified))
    ⊎ (HasText pool descriptor IsMethodDescriptor × HasText pool name (IsNameOf IsMethod))

-- by invokeinterface, and from 52.0 on by invokestatic and invokespecial too (4.4.8)
abbrev pub may_name_interface_method : ℕ → ℕ → Bool
may_name_interface_method major kind = kind == 9 || (kind == 6 || kind == 7) && nat_le 52 major

-- what a method handle of each kind may be made of (4.4.8)
abbrev pub MayHandle : ℕ → List Entry → ℕ → Option Entry → Type 0
MayHandle major pool kind (Some (Fieldref class pair)) = (1 ≤ kind) × (kind ≤ 4)
MayHandle major pool kind (Some (Methodref class pair)) =
    (((kind ≡ 5) ⊎ ((kind ≡ 6) ⊎ (kind ≡ 7))) × HasPlainName pool pair)
    ⊎ ((kind ≡ 8) × IsNameAndType pool pair init)
MayHandle major pool kind (Some (InterfaceMethodref class pair)) =
    IsTrue (may_name_interface_method major kind) × HasPlainName pool pair
MayHandle major pool kind _ = ⊥

-- what the table of entries asks of each (4.4)
abbrev pub KeepsEntry : ℕ → List Entry → Entry → Type 0
KeepsEntry major pool (Utf8 text) = IsModifiedUtf8 text
KeepsEntry major pool (Class text) = HasText pool text NamesType
KeepsEntry major pool (String text) = HasText pool text (λ text. Unit {0})
KeepsEntry major pool (Fieldref class pair) = HasClass pool class × HasPair pool pair IsFieldDescriptor
KeepsEntry major pool (Methodref class pair) =
    HasClass pool class × HasPair pool pair IsMethodDescriptor × MayCall pool pair
KeepsEntry major pool (InterfaceMethodref class pair) =
    HasClass pool class × HasPair pool pair IsMethodDescriptor
KeepsEntry major pool (NameAndType name descriptor) = MayPair pool name descriptor
KeepsEntry major pool (MethodHandle kind reference) = MayHandle major pool kind (at pool reference)
KeepsEntry major pool (MethodType descriptor) = HasText pool descriptor IsMethodDescriptor
KeepsEntry major pool (InvokeDynamic bootstrap pair) = HasPair pool pair IsMethodDescriptor
KeepsEntry major pool _ = Unit {0}
