-- Keys of methods, by their texts.
use Rattle.std.proofs.Common.{◌≡◌, Option, Some, None, refl, ap, sym}
use Rattle.std.specs.Prelude.{IsSome, option_map, unwrap_or, []}
use Rattle.cl_descriptors.specs.Types.{SpellsMethod}
use Rattle.cl_descriptors.specs.Reading.{whole_method}
use Rattle.cl_descriptors.specs.declared.types.MethodType.{MethodType}
use Rattle.cl_descriptors.specs.declared.types.Descriptor.TheVariants as descriptors
use Rattle.cl_descriptors.proofs.Methods.{whole_method_again}
use Rattle.cl_classfile.specs.Files.{Name, Key, method_of}
use Rattle.cl_preparation.specs.Methods.{type_in, key_in}

read_as : (name : Name) (o : Option MethodType) → IsSome o
    → option_map (λ (m : MethodType). let made : Key = record { name = name; descriptor = descriptors.Method m } in made) o ≡ Some (record { name = name; descriptor = descriptors.Method (unwrap_or o (record { params = []; ret = None })) })
read_as name (Some m) s = refl
read_as name None s = absurd cc

-- the texts of a name and of a method's descriptor are read as their key
pub read_is : (name descriptor : Name) → IsSome (whole_method descriptor) → method_of name descriptor ≡ Some (key_in name descriptor)
read_is name descriptor s = read_as name (whole_method descriptor) s

-- a type that spells the text is the one that is read
pub type_read : (text : Name) (m : MethodType) → SpellsMethod text m → m ≡ type_in text
type_read text m s = sym (ap (λ (o : Option MethodType). unwrap_or o (record { params = []; ret = None })) (whole_method_again text m s))
