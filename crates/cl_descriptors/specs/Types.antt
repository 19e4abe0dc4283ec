-- Types, how descriptors spell them, and the limits that they keep (JVMS SE 8, 4.3).
use Rattle.std.specs.Prelude.{
  ◌≡◌,
  ℕ,
  Bool,
  nat_le,
  List,
  ◌++◌,
  replicate,
  codes,
  flat_map,
  filter_map,
  Option,
  Some,
  None,
  option_to_list,
}
use Rattle.std.specs.List.{AllByRecursion, list_all}
use Rattle.cl_names.specs.Kind.{IsNameOf, IsClass}
use Rattle.cl_descriptors.specs.Units.{units_of_types}
use Rattle.cl_descriptors.specs.declared.limits.TheConstants.{MOST_DIMENSIONS, MOST_UNITS}
use Rattle.cl_descriptors.specs.declared.types.Base.{Base}
use Rattle.cl_descriptors.specs.declared.types.Base.TheVariants.{
  Byte,
  Char,
  Double,
  Float,
  Int,
  Long,
  Short,
  Boolean,
  Class,
}
use Rattle.cl_descriptors.specs.declared.types.FieldType.{FieldType}
use Rattle.cl_descriptors.specs.declared.types.MethodType.{MethodType}

-- the letter of a base, or a class name between `L` and `;` (JVMS SE 8, 4.3.2)
abbrev pub spelling_of_base : Base → List ℕ
spelling_of_base Byte = codes "B"
spelling_of_base Char = codes "C"
spelling_of_base Double = codes "D"
spelling_of_base Float = codes "F"
spelling_of_base Int = codes "I"
spelling_of_base Long = codes "J"
spelling_of_base Short = codes "S"
spelling_of_base Boolean = codes "Z"
spelling_of_base (Class name) = codes "L" ++ (name ++ codes ";")

-- a `[` for each dimension, and the base (JVMS SE 8, 4.3.2)
abbrev pub spelling_of_field : FieldType → List ℕ
spelling_of_field t = replicate t.dims 0x5b ++ spelling_of_base t.base

-- `V` for nothing (JVMS SE 8, 4.3.3)
abbrev pub spelling_of_return : Option FieldType → List ℕ
spelling_of_return None = codes "V"
spelling_of_return (Some t) = spelling_of_field t

-- the parameters between `(` and `)`, and what is returned (JVMS SE 8, 4.3.3)
abbrev pub spelling_of_method : MethodType → List ℕ
spelling_of_method m =
    codes "(" ++ (flat_map spelling_of_field m.params ++ (codes ")" ++ spelling_of_return m.ret))

-- the type that is returned, if any, and then the parameters in order (JVMS SE 8, 4.3.3)
abbrev pub types_of : MethodType → List FieldType
types_of m = option_to_list m.ret ++ m.params

-- what it names as a class is a class name (JVMS SE 8, 4.2.1)
abbrev pub IsBase : Base → Type 0
IsBase (Class name) = IsNameOf IsClass name
IsBase _ = Unit {0}

-- each that a method type names as a class is a class name (JVMS SE 8, 4.2.1)
abbrev pub AreNamed : MethodType → Type 0
AreNamed m = AllByRecursion (λ t. IsBase t.base) (types_of m)

-- the bytes are the descriptor of this field type, but for the limit on dimensions: in a definition
-- a type has any number of them (JVMS SE 8, 4.3.2)
pub record SpellsField (bytes : List ℕ) (t : FieldType) : Type 0 where
  pub named : IsBase t.base
  pub spelled : bytes ≡ spelling_of_field t

-- the bytes are the descriptor of this method type, but for the limits (JVMS SE 8, 4.3.3)
pub record SpellsMethod (bytes : List ℕ) (m : MethodType) : Type 0 where
  pub named : AreNamed m
  pub spelled : bytes ≡ spelling_of_method m

-- not too many dimensions (JVMS SE 8, 4.3.2)
abbrev pub is_shallow : FieldType → Bool
is_shallow t = nat_le t.dims MOST_DIMENSIONS

-- each type of a method has not too many dimensions (JVMS SE 8, 4.3.2)
abbrev pub are_shallow : MethodType → Bool
are_shallow m = list_all is_shallow (types_of m)

-- the units of the parameters, without one for `this` (JVMS SE 8, 4.3.3; own choice for `this`)
abbrev pub units_of_method : MethodType → ℕ
units_of_method m = units_of_types m.params

-- not too many units (JVMS SE 8, 4.3.3)
abbrev pub is_short : MethodType → Bool
is_short m = nat_le (units_of_method m) MOST_UNITS

-- the class that a base is, if it is one (JVMS SE 8, 4.3.2)
abbrev pub class_of_base : Base → Option (List ℕ)
class_of_base (Class name) = Some name
class_of_base _ = None

-- the class that a type names, that of an array's elements too (JVMS SE 8, 4.3.2)
abbrev pub class_of : FieldType → Option (List ℕ)
class_of t = class_of_base t.base

-- the classes that a method type names: that of the return type, and then those of the parameters
-- in order (JVMS SE 8, 4.3.3)
abbrev pub classes_of : MethodType → List (List ℕ)
classes_of m = filter_map class_of (types_of m)
