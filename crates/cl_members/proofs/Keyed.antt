-- Keys by the texts of a name and a descriptor, and the classes that a descriptor names.
use Rattle.std.proofs.Common.{◌≡◌, Some, refl}
use Rattle.std.specs.Prelude.{option_map, option_to_list, IsSome}
use Rattle.cl_descriptors.specs.Reading.{whole_field, whole_method}
use Rattle.cl_descriptors.specs.declared.types.FieldType.{FieldType}
use Rattle.cl_descriptors.specs.declared.types.MethodType.{MethodType}
use Rattle.cl_descriptors.specs.Types.{SpellsField, SpellsMethod, class_of, classes_of}
use Rattle.cl_descriptors.proofs.Methods.{whole_field_again, whole_method_again}
use Rattle.cl_classfile.specs.Files.{Name, Key, field_of, method_of}
use Rattle.cl_model.specs.Keys.{descriptor_of, key_of}
use Rattle.cl_model.proofs.Keys as keys

-- ---- keys of fields and of methods are keys

-- a key as a member has it
pub record IsKeyOf (name descriptor : Name) (key : Key) : Type 0 where
  pub keyed : key_of name descriptor ≡ key
  pub described : IsSome (descriptor_of descriptor)

pub field_keyed : (n d : Name) (key : Key) → field_of n d ≡ Some key → IsKeyOf n d key
field_keyed n d key e = let is = keys.field_key n d key e in record { keyed = is.1; described = is.0 }

pub method_keyed : (n d : Name) (key : Key) → method_of n d ≡ Some key → IsKeyOf n d key
method_keyed n d key e = let is = keys.method_key n d key e in record { keyed = is.1; described = is.0 }

-- ---- the classes that a descriptor names

pub field_classes : (d : Name) (t : FieldType) → SpellsField d t → option_map (λ x. option_to_list (class_of x)) (whole_field d) ≡ Some (option_to_list (class_of t))
field_classes d t s = rw (whole_field_again d t s) refl

pub method_classes : (d : Name) (m : MethodType) → SpellsMethod d m → option_map classes_of (whole_method d) ≡ Some (classes_of m)
method_classes d m s = rw (whole_method_again d m s) refl
