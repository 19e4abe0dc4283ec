-- The widths as tests: whether each item is such as its width can say (JVMS SE 8, 4.1, 4.4 to 4.7).
use Rattle.std.specs.Prelude.{ℕ, ℤ, pos, negsuc, ◌^◌, Bool, true, false, ◌&&◌, nat_lt, List, length}
use Rattle.std.specs.List.{list_all}
use Rattle.cl_classfile.specs.declared.entry.Entry.{Entry}
use Rattle.cl_classfile.specs.declared.entry.Entry.TheVariants.{
  Utf8,
  Integer,
  Float,
  Long,
  Double,
  Unusable,
  Class,
  String,
  Fieldref,
  Methodref,
  InterfaceMethodref,
  NameAndType,
  MethodHandle,
  MethodType,
  InvokeDynamic,
}
use Rattle.cl_classfile.specs.Members.{Attribute, MemberInfo}

-- ---- the pool

-- a number of two bytes (4.1)
abbrev pub is_short : ℕ → Bool
is_short n = nat_lt n (2 ^ 16)

-- a number in two's complement, of one bit more than the limit has (4.4.4, 4.4.5)
abbrev pub is_signed : ℕ → ℤ → Bool
is_signed limit (pos n) = nat_lt n limit
is_signed limit (negsuc n) = nat_lt n limit

-- what follows the tag is such as its width can say (4.4)
abbrev pub entry_fits : Entry → Bool
entry_fits (Utf8 text) = is_short (length text)
entry_fits (Integer value) = is_signed (2 ^ 31) value
entry_fits (Float bits) = nat_lt bits (2 ^ 32)
entry_fits (Long value) = is_signed (2 ^ 63) value
entry_fits (Double bits) = nat_lt bits (2 ^ 64)
entry_fits Unusable = true
entry_fits (Class text) = is_short text
entry_fits (String text) = is_short text
entry_fits (Fieldref class pair) = is_short class && is_short pair
entry_fits (Methodref class pair) = is_short class && is_short pair
entry_fits (InterfaceMethodref class pair) = is_short class && is_short pair
entry_fits (NameAndType name descriptor) = is_short name && is_short descriptor
entry_fits (MethodHandle kind reference) = nat_lt kind (2 ^ 8) && is_short reference
entry_fits (MethodType descriptor) = is_short descriptor
entry_fits (InvokeDynamic bootstrap pair) = is_short bootstrap && is_short pair

-- the second index of a long or a double (4.4.5)
abbrev pub is_unusable : Entry → Bool
is_unusable Unusable = true
is_unusable _ = false

-- ---- lists of two bytes' count

-- a count can say how many there are, and each of them fits (4.1)
abbrev pub all_fit : {A : Type 0} → (A → Bool) → List A → Bool
all_fit fits xs = is_short (length xs) && list_all fits xs

-- each item of an attribute is such as its width can say (4.7)
abbrev pub attribute_fits : Attribute → Bool
attribute_fits a = is_short a.name_index && nat_lt (length a.bytes) (2 ^ 32)

-- each item of a field or a method is such as its width can say (4.5, 4.6)
abbrev pub member_fits : MemberInfo → Bool
member_fits m =
    is_short m.flags && is_short m.name_index && is_short m.descriptor_index
    && all_fit attribute_fits m.attributes
