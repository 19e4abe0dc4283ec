-- Members by the texts of their names and descriptors (JVMS SE 8, 4.5, 4.6).
use Rattle.std.specs.Prelude.{Bool, false, ◌&&◌, List, Option, Some, None, option_and_then}
use Rattle.cl_classfile.specs.declared.entry.Entry.{Entry}
use Rattle.cl_classfile.specs.Structure.{Structure}
use Rattle.cl_classfile.specs.Structure as structure
use Rattle.cl_classfile.specs.Files.{
  Name,
  Member,
  File,
  same_name,
  member,
  field_of,
  method_of,
  declared_by,
  text_at,
}

-- the field of this name and descriptor that a class declares, if it declares one (4.5)
abbrev pub field_named : File → Name → Name → Option Member
field_named f name descriptor = option_and_then (member f.fields) (field_of name descriptor)

-- the method of this name and descriptor that a class declares, if it declares one (4.6)
abbrev pub method_named : File → Name → Name → Option Member
method_named f name descriptor = option_and_then (member f.methods) (method_of name descriptor)

-- what linking looks at of a field (4.5)
abbrev pub linked_field : Structure → structure.MemberInfo → Option Member
linked_field f m = declared_by field_of f.pool m

-- what linking looks at of a method (4.6)
abbrev pub linked_method : Structure → structure.MemberInfo → Option Member
linked_method f m = declared_by method_of f.pool m

-- a text that is there is this one (4.4.7)
abbrev pub is_this : Name → Option Name → Bool
is_this text None = false
is_this text (Some found) = same_name found text

-- the member has this name and this descriptor (4.5, 4.6)
abbrev pub has_texts : List Entry → Name → Name → structure.MemberInfo → Bool
has_texts pool name descriptor m =
    is_this descriptor (text_at pool m.descriptor_index) && is_this name (text_at pool m.name_index)
