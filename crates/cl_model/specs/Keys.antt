-- The key of a member, by the texts of its name and of its descriptor (JVMS SE 8, 4.3, 5.4.3).
use Rattle.std.specs.Prelude.{[], Option, None, option_map, unwrap_or}
use Rattle.std.specs.Option.{option_or}
use Rattle.cl_descriptors.specs.declared.types.Descriptor.{Descriptor}
use Rattle.cl_descriptors.specs.declared.types.Descriptor.TheVariants as descriptors
use Rattle.cl_descriptors.specs.Reading.{whole_field, whole_method}
use Rattle.cl_classfile.specs.Files.{Name, Key}

-- what a text is the descriptor of: a field's type, or a method's (4.3.2, 4.3.3)
abbrev pub descriptor_of : Name → Option Descriptor
descriptor_of text = option_or (option_map (λ t. descriptors.Field t) (whole_field text))
    (option_map (λ m. descriptors.Method m) (whole_method text))

-- what the text of a descriptor is one of; of another text it tells nothing (4.3)
abbrev pub descriptor_in : Name → Descriptor
descriptor_in text = unwrap_or (descriptor_of text)
    (descriptors.Method (record { params = []; ret = None }))

-- the key of this name and this descriptor (5.4.3)
abbrev pub key_of : Name → Name → Key
key_of name descriptor = record { name = name; descriptor = descriptor_in descriptor }
