-- What an answer says of the bytes.
use Rattle.std.proofs.Common.{◌≡◌, ℕ, Bool, true, false, List, Option, Some, None, Result, Ok, Err, refl, ap, subst}
use Rattle.std.specs.Prelude.{if◌then◌else◌}
use Rattle.cl_descriptors.specs.Types.{SpellsField, SpellsMethod, is_shallow, are_shallow, is_short}
use Rattle.cl_descriptors.specs.Reading.{whole_field, whole_method, within_field, within_method, field_of, method_of}
use Rattle.cl_descriptors.specs.Answers.{FieldOf, MethodOf, GivesReading}
use Rattle.cl_descriptors.specs.declared.types.FieldType.{FieldType}
use Rattle.cl_descriptors.specs.declared.types.MethodType.{MethodType}
use Rattle.cl_descriptors.specs.declared.types.DescriptorFault.{DescriptorFault}
use Rattle.cl_descriptors.specs.declared.types.DescriptorFault.TheVariants.{Memory, Malformed, TooManyDimensions, TooManyUnits}
use Rattle.cl_descriptors.proofs.Methods.{whole_field_spelled, whole_field_again, whole_method_spelled, whole_method_again}

-- ---- field types

shallow_outcome : (bytes : List ℕ) (t : FieldType) → SpellsField bytes t → (b : Bool) → is_shallow t ≡ b → (r : Result FieldType DescriptorFault)
    → GivesReading r (if b then Ok t else Err TooManyDimensions) → FieldOf bytes r
shallow_outcome bytes t s true e (Ok x) g =
    let is : t ≡ x = cc in
    subst (λ (y : FieldType). FieldOf bytes (Ok y)) is (s, record { shallow = e })
shallow_outcome bytes t s true e (Err Memory) g = (t, s, record { shallow = e })
shallow_outcome bytes t s true e (Err Malformed) g = absurd cc
shallow_outcome bytes t s true e (Err TooManyDimensions) g = absurd cc
shallow_outcome bytes t s true e (Err TooManyUnits) g = absurd cc
shallow_outcome bytes t s false e (Ok x) g = absurd cc
shallow_outcome bytes t s false e (Err Memory) g = absurd cc
shallow_outcome bytes t s false e (Err Malformed) g = absurd cc
shallow_outcome bytes t s false e (Err TooManyDimensions) g = (t, s, e)
shallow_outcome bytes t s false e (Err TooManyUnits) g = absurd cc

field_outcome : (bytes : List ℕ) (o : Option FieldType) → whole_field bytes ≡ o → (r : Result FieldType DescriptorFault) → GivesReading r (within_field o) → FieldOf bytes r
field_outcome bytes None e (Ok x) g = absurd cc
field_outcome bytes None e (Err Memory) g = absurd cc
field_outcome bytes None e (Err Malformed) g = λ t s. let found = whole_field_again bytes t s in absurd cc
field_outcome bytes None e (Err TooManyDimensions) g = absurd cc
field_outcome bytes None e (Err TooManyUnits) g = absurd cc
field_outcome bytes (Some t) e r g = shallow_outcome bytes t (whole_field_spelled bytes t e) (is_shallow t) refl r g

pub field_is : (bytes : List ℕ) (r : Result FieldType DescriptorFault) → GivesReading r (field_of bytes) → FieldOf bytes r
unfolding field_of
field_is bytes r g = field_outcome bytes (whole_field bytes) refl r g

pub field_of_spelling : (bytes : List ℕ) (t : FieldType) → SpellsField bytes t → field_of bytes ≡ within_field (Some t)
unfolding field_of
field_of_spelling bytes t s = ap within_field (whole_field_again bytes t s)

-- ---- method types

method_limits : (bytes : List ℕ) (m : MethodType) → SpellsMethod bytes m → (b c : Bool) → are_shallow m ≡ b → is_short m ≡ c → (r : Result MethodType DescriptorFault)
    → GivesReading r (if b then if c then Ok m else Err TooManyUnits else Err TooManyDimensions) → MethodOf bytes r
method_limits bytes m s true true e f (Ok x) g =
    let is : m ≡ x = cc in
    subst (λ (y : MethodType). MethodOf bytes (Ok y)) is (s, record { shallow = e; short = f })
method_limits bytes m s true true e f (Err Memory) g = (m, s, record { shallow = e; short = f })
method_limits bytes m s true true e f (Err Malformed) g = absurd cc
method_limits bytes m s true true e f (Err TooManyDimensions) g = absurd cc
method_limits bytes m s true true e f (Err TooManyUnits) g = absurd cc
method_limits bytes m s true false e f (Ok x) g = absurd cc
method_limits bytes m s true false e f (Err Memory) g = absurd cc
method_limits bytes m s true false e f (Err Malformed) g = absurd cc
method_limits bytes m s true false e f (Err TooManyDimensions) g = absurd cc
method_limits bytes m s true false e f (Err TooManyUnits) g = (m, s, (e, f))
method_limits bytes m s false c e f (Ok x) g = absurd cc
method_limits bytes m s false c e f (Err Memory) g = absurd cc
method_limits bytes m s false c e f (Err Malformed) g = absurd cc
method_limits bytes m s false c e f (Err TooManyDimensions) g = (m, s, e)
method_limits bytes m s false c e f (Err TooManyUnits) g = absurd cc

method_outcome : (bytes : List ℕ) (o : Option MethodType) → whole_method bytes ≡ o → (r : Result MethodType DescriptorFault) → GivesReading r (within_method o) → MethodOf bytes r
method_outcome bytes None e (Ok x) g = absurd cc
method_outcome bytes None e (Err Memory) g = absurd cc
method_outcome bytes None e (Err Malformed) g = λ m s. let found = whole_method_again bytes m s in absurd cc
method_outcome bytes None e (Err TooManyDimensions) g = absurd cc
method_outcome bytes None e (Err TooManyUnits) g = absurd cc
method_outcome bytes (Some m) e r g = method_limits bytes m (whole_method_spelled bytes m e) (are_shallow m) (is_short m) refl refl r g

pub method_is : (bytes : List ℕ) (r : Result MethodType DescriptorFault) → GivesReading r (method_of bytes) → MethodOf bytes r
unfolding method_of
method_is bytes r g = method_outcome bytes (whole_method bytes) refl r g

pub method_of_spelling : (bytes : List ℕ) (m : MethodType) → SpellsMethod bytes m → method_of bytes ≡ within_method (Some m)
unfolding method_of
method_of_spelling bytes m s = ap within_method (whole_method_again bytes m s)
