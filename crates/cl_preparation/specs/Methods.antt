-- Methods by their names and the texts of their descriptors (JVMS SE 8, 4.3.3, 4.6).
use Rattle.std.specs.Prelude.{◌≡◌, ℕ, Bool, ◌||◌, List, [], Some, None, IsSome, unwrap_or}
use Rattle.cl_descriptors.specs.declared.types.MethodType.{MethodType}
use Rattle.cl_descriptors.specs.declared.types.Descriptor.TheVariants as descriptors
use Rattle.cl_descriptors.specs.Reading.{whole_method}
use Rattle.cl_classfile.specs.declared.entry.Entry.{Entry}
use Rattle.cl_classfile.specs.Structure as structure
use Rattle.cl_classfile.specs.Files.{Name, Key, text_at, is_public, is_protected}

-- the method type that a text is the descriptor of; of another text it tells nothing (4.3.3)
abbrev pub type_in : Name → MethodType
type_in text = unwrap_or (whole_method text) (record { params = []; ret = None })

-- the key of a method of this name and this descriptor (4.6)
abbrev pub key_in : Name → Name → Key
key_in name descriptor =
    record { name = name; descriptor = descriptors.Method (type_in descriptor) }

-- what stands at a method's indices is a name and a method descriptor (4.6)
pub record IsTyped (pool : List Entry) (m : structure.MemberInfo) : Type 0 where
  pub name : Name
  pub descriptor : Name
  pub named : text_at pool m.name_index ≡ Some name
  pub described : text_at pool m.descriptor_index ≡ Some descriptor
  pub typed : IsSome (whole_method descriptor)

-- public or protected (5.4.5)
abbrev pub is_public_or_protected : ℕ → Bool
is_public_or_protected flags = is_public flags || is_protected flags
