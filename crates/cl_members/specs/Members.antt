-- Members of a file, by the key that texts are, if they are one (JVMS SE 8, 4.5, 4.6).
use Rattle.std.specs.Prelude.{Option, option_and_then}
use Rattle.cl_classfile.specs.Files.{File, Key, Member, member}

-- the field with this key that a file has (4.5)
abbrev pub field_in : Option Key → File → Option Member
field_in key f = option_and_then (member f.fields) key

-- the method with this key that a file has (4.6)
abbrev pub method_in : Option Key → File → Option Member
method_in key f = option_and_then (member f.methods) key
