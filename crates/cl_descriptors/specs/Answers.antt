-- What reading bytes as a descriptor may answer: which of these it is, the bytes say, unless
-- memory runs out (JVMS SE 8, 4.3).
use Rattle.std.specs.Prelude.{
  ◌≡◌,
  ◌≢◌,
  ℕ,
  IsTrue,
  IsFalse,
  IsOk,
  IsSome,
  List,
  Option,
  Some,
  None,
  Result,
  Ok,
  Err,
}
use Rattle.cl_descriptors.specs.Types.{
  SpellsField,
  SpellsMethod,
  is_shallow,
  are_shallow,
  is_short,
  units_of_method,
}
use Rattle.cl_descriptors.specs.declared.types.FieldType.{FieldType}
use Rattle.cl_descriptors.specs.declared.types.MethodType.{MethodType}
use Rattle.cl_descriptors.specs.declared.types.Form.{Form}
use Rattle.cl_descriptors.specs.declared.types.Form.TheVariants.{Plain, Array, Method, Void}
use Rattle.cl_descriptors.specs.declared.types.DescriptorFault.{DescriptorFault}
use Rattle.cl_descriptors.specs.declared.types.DescriptorFault.TheVariants.{
  Memory,
  Malformed,
  TooManyDimensions,
  TooManyUnits,
}

-- some field type of that kind is spelled so (JVMS SE 8, 4.3.2)
abbrev pub IsField : List ℕ → (FieldType → Type 0) → Type 0
IsField bytes Kind = (t : FieldType) × SpellsField bytes t × Kind t

-- some method type of that kind is spelled so (JVMS SE 8, 4.3.3)
abbrev pub SpellsSomeMethod : List ℕ → (MethodType → Type 0) → Type 0
SpellsSomeMethod bytes Kind = (m : MethodType) × SpellsMethod bytes m × Kind m

-- a field type within the limit (JVMS SE 8, 4.3.2)
pub record IsFieldType (t : FieldType) : Type 0 where
  pub shallow : IsTrue (is_shallow t)

-- a method type within the limits (JVMS SE 8, 4.3.2, 4.3.3)
pub record IsMethodType (m : MethodType) : Type 0 where
  pub shallow : IsTrue (are_shallow m)
  pub short : IsTrue (is_short m)

-- the bytes are a field descriptor (JVMS SE 8, 4.3.2)
abbrev pub IsFieldDescriptor : List ℕ → Type 0
IsFieldDescriptor bytes = IsField bytes IsFieldType

-- the bytes are the descriptor of an array (JVMS SE 8, 4.3.2)
abbrev pub IsArrayDescriptor : List ℕ → Type 0
IsArrayDescriptor bytes = IsField bytes (λ t. IsFieldType t × (t.dims ≢ 0))

-- the bytes are a method descriptor (JVMS SE 8, 4.3.3)
abbrev pub IsMethodDescriptor : List ℕ → Type 0
IsMethodDescriptor bytes = SpellsSomeMethod bytes IsMethodType

-- the bytes are the descriptor of a method that returns nothing (JVMS SE 8, 4.3.3)
abbrev pub IsVoidDescriptor : List ℕ → Type 0
IsVoidDescriptor bytes = SpellsSomeMethod bytes (λ m. IsMethodType m × (m.ret ≡ None))

-- what reading as a field descriptor may answer (JVMS SE 8, 4.3.2)
abbrev pub FieldOf : List ℕ → Result FieldType DescriptorFault → Type 0
FieldOf bytes (Ok t) = SpellsField bytes t × IsFieldType t
FieldOf bytes (Err Malformed) = (t : FieldType) → SpellsField bytes t → ⊥
FieldOf bytes (Err TooManyDimensions) = IsField bytes (λ t. IsFalse (is_shallow t))
FieldOf bytes (Err TooManyUnits) = ⊥
FieldOf bytes (Err Memory) = IsFieldDescriptor bytes

-- what reading as a method descriptor may answer (JVMS SE 8, 4.3.3)
abbrev pub MethodOf : List ℕ → Result MethodType DescriptorFault → Type 0
MethodOf bytes (Ok m) = SpellsMethod bytes m × IsMethodType m
MethodOf bytes (Err Malformed) = (m : MethodType) → SpellsMethod bytes m → ⊥
MethodOf bytes (Err TooManyDimensions) = SpellsSomeMethod bytes (λ m. IsFalse (are_shallow m))
MethodOf bytes (Err TooManyUnits) =
    SpellsSomeMethod bytes (λ m. IsTrue (are_shallow m) × IsFalse (is_short m))
MethodOf bytes (Err Memory) = IsMethodDescriptor bytes

-- the answer is that of the bytes, and memory runs out only where they are a descriptor
abbrev pub GivesReading : {A : Type 0} → Result A DescriptorFault → Result A DescriptorFault
    → Type 0
GivesReading (Ok x) reading = reading ≡ Ok x
GivesReading (Err Malformed) reading = reading ≡ Err Malformed
GivesReading (Err TooManyDimensions) reading = reading ≡ Err TooManyDimensions
GivesReading (Err TooManyUnits) reading = reading ≡ Err TooManyUnits
GivesReading (Err Memory) reading = IsOk reading

-- the form says what the bytes are the descriptor of, if of anything (JVMS SE 8, 4.3)
abbrev pub FormOf : List ℕ → Option Form → Type 0
FormOf bytes None = (IsFieldDescriptor bytes → ⊥) × (IsMethodDescriptor bytes → ⊥)
FormOf bytes (Some Plain) = IsField bytes (λ t. IsFieldType t × (t.dims ≡ 0))
FormOf bytes (Some Array) = IsArrayDescriptor bytes
FormOf bytes (Some Method) = SpellsSomeMethod bytes (λ m. IsMethodType m × IsSome m.ret)
FormOf bytes (Some Void) = IsVoidDescriptor bytes

-- the units of the parameters, if the bytes are the descriptor of a method (JVMS SE 8, 4.3.3)
abbrev pub UnitsOf : List ℕ → Option ℕ → Type 0
UnitsOf bytes None = IsMethodDescriptor bytes → ⊥
UnitsOf bytes (Some n) = SpellsSomeMethod bytes (λ m. IsMethodType m × (units_of_method m ≡ n))
