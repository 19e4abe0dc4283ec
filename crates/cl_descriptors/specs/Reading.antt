-- Reading descriptors from left to right (JVMS SE 8, 4.3).
use Rattle.std.specs.Prelude.{
  ℕ,
  zero,
  suc,
  ◌+◌,
  ◌==◌,
  ◌&&◌,
  Bool,
  false,
  not,
  if◌then◌else◌,
  List,
  [],
  ◌∷◌,
  length,
  take,
  drop,
  position,
  Option,
  Some,
  None,
  option_map,
  option_and_then,
  is_some,
  Result,
  Ok,
  Err,
}
use Rattle.std.specs.Option.{option_or}
use Rattle.cl_names.specs.Kind.{is_class_name}
use Rattle.std.specs.Result.{result_ok}
use Rattle.cl_descriptors.specs.Types.{is_shallow, are_shallow, is_short, units_of_method}
use Rattle.cl_descriptors.specs.declared.types.Base.{Base}
use Rattle.cl_descriptors.specs.declared.types.Base.TheVariants.{
  Byte,
  Char,
  Double,
  Float,
  Int,
  Long,
  Short,
  Boolean,
  Class,
}
use Rattle.cl_descriptors.specs.declared.types.FieldType.{FieldType}
use Rattle.cl_descriptors.specs.declared.types.MethodType.{MethodType}
use Rattle.cl_descriptors.specs.declared.types.Form.{Form}
use Rattle.cl_descriptors.specs.declared.types.Form.TheVariants as forms
use Rattle.cl_descriptors.specs.declared.types.DescriptorFault.{DescriptorFault}
use Rattle.cl_descriptors.specs.declared.types.DescriptorFault.TheVariants.{
  Malformed,
  TooManyDimensions,
  TooManyUnits,
}

-- the base of a letter: B, C, D, F, I, J, S or Z (JVMS SE 8, 4.3.2)
abbrev pub base_of_letter : ℕ → Option Base
base_of_letter c =
    if c == 0x42
    then Some Byte
    else if c == 0x43
    then Some Char
    else if c == 0x44
    then Some Double
    else if c == 0x46
    then Some Float
    else if c == 0x49
    then Some Int
    else if c == 0x4a
    then Some Long
    else if c == 0x53
    then Some Short
    else if c == 0x5a
    then Some Boolean
    else None

-- a class name up to the first `;`, and what follows (JVMS SE 8, 4.3.2)
unfoldable pub class_at : List ℕ → Option (List ℕ × List ℕ)
class_at bytes =
    option_and_then
    (λ k. if is_class_name (take k bytes)
    then Some (take k bytes, drop (k + 1) bytes)
    else None)
    (position (λ b. b == 0x3b) bytes)

-- a letter, or `L` and a class name, and what follows (JVMS SE 8, 4.3.2)
unfoldable pub base_at : List ℕ → Option (Base × List ℕ)
base_at [] = None
base_at (c ∷ rest) =
    if c == 0x4c
    then option_map (λ x. (Class x.0, x.1)) (class_at rest)
    else option_map (λ b. (b, rest)) (base_of_letter c)

-- each `[` and a base, and what follows (JVMS SE 8, 4.3.2)
unfoldable pub field_at : List ℕ → Option (FieldType × List ℕ)
field_at bytes =
    option_and_then
    (λ n. option_map (λ x. (record { dims = n; base = x.0 }, x.1)) (base_at (drop n bytes)))
    (position (λ b. not (b == 0x5b)) bytes)

-- at most so many types, as long as one stands there, and what follows (JVMS SE 8, 4.3.3)
unfoldable pub types_at : ℕ → List ℕ → List FieldType × List ℕ
types_at zero bytes = ([], bytes)
types_at (suc n) bytes = elim (field_at bytes) [
  | None ↦ ([], bytes)
  | Some x ↦ (x.0 ∷ (types_at n x.1).0, (types_at n x.1).1)
]

-- all types at the front: each is at least one byte long (JVMS SE 8, 4.3.3)
abbrev pub all_types : List ℕ → List FieldType × List ℕ
all_types bytes = types_at (length bytes) bytes

-- all of the bytes as a field type (JVMS SE 8, 4.3.2)
unfoldable pub whole_field : List ℕ → Option FieldType
whole_field bytes =
    option_and_then (λ x. if length x.1 == 0 then Some x.0 else None) (field_at bytes)

-- whether bytes are `V`, for nothing (JVMS SE 8, 4.3.3)
abbrev pub is_void : List ℕ → Bool
is_void [] = false
is_void (c ∷ rest) = c == 0x56 && length rest == 0

-- all of the bytes as what a method returns (JVMS SE 8, 4.3.3)
unfoldable pub whole_return : List ℕ → Option (Option FieldType)
whole_return bytes =
    if is_void bytes then Some None else option_map (λ t. Some t) (whole_field bytes)

-- `)` and what a method returns, after these parameters (JVMS SE 8, 4.3.3)
abbrev pub closed_with : List FieldType → List ℕ → Option MethodType
closed_with params [] = None
closed_with params (c ∷ rest) =
    if c == 0x29
    then option_map (λ r. record { params = params; ret = r }) (whole_return rest)
    else None

-- all of the bytes as a method type (JVMS SE 8, 4.3.3)
unfoldable pub whole_method : List ℕ → Option MethodType
whole_method [] = None
whole_method (c ∷ rest) =
    if c == 0x28 then closed_with (all_types rest).0 (all_types rest).1 else None

-- a field type within the limit (JVMS SE 8, 4.3.2)
abbrev pub within_field : Option FieldType → Result FieldType DescriptorFault
within_field None = Err Malformed
within_field (Some t) = if is_shallow t then Ok t else Err TooManyDimensions

-- a method type within the limits (JVMS SE 8, 4.3.3)
abbrev pub within_method : Option MethodType → Result MethodType DescriptorFault
within_method None = Err Malformed
within_method (Some m) =
    if are_shallow m
    then if is_short m
    then Ok m
    else Err TooManyUnits
    else Err TooManyDimensions

-- the field type that the bytes are the descriptor of, or why they are none (JVMS SE 8, 4.3.2)
unfoldable pub field_of : List ℕ → Result FieldType DescriptorFault
field_of bytes = within_field (whole_field bytes)

-- the method type that the bytes are the descriptor of, or why they are none (JVMS SE 8, 4.3.3)
unfoldable pub method_of : List ℕ → Result MethodType DescriptorFault
method_of bytes = within_method (whole_method bytes)

-- what a field type is (JVMS SE 8, 4.3.2)
abbrev pub field_form : Result FieldType DescriptorFault → Option Form
field_form (Err f) = None
field_form (Ok t) = if t.dims == 0 then Some forms.Plain else Some forms.Array

-- whether a method type returns something (JVMS SE 8, 4.3.3)
abbrev pub method_form : Result MethodType DescriptorFault → Option Form
method_form (Err f) = None
method_form (Ok m) = if is_some m.ret then Some forms.Method else Some forms.Void

-- the form of the descriptor that the bytes are (JVMS SE 8, 4.3)
unfoldable pub form_of : List ℕ → Option Form
form_of bytes = option_or (field_form (field_of bytes)) (method_form (method_of bytes))

-- how many units the parameters count of the method descriptor that the bytes are
-- (JVMS SE 8, 4.3.3)
unfoldable pub units_of : List ℕ → Option ℕ
units_of bytes = option_map units_of_method (result_ok (method_of bytes))
