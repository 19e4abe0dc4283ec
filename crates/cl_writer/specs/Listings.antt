-- The lines of a class file in the assembler's form.
use Rattle.std.specs.Prelude.{
  ℕ,
  ◌&&◌,
  ◌==◌,
  List,
  [],
  ◌∷◌,
  ◌++◌,
  Option,
  Some,
  None,
  codes,
  if◌then◌else◌,
}
use Rattle.std.specs.Fmt.{decimal}
use Rattle.std.specs.List.{flat_map}
use Rattle.cl_names.specs.Escape.{escaped_text, four_digits}
use Rattle.cl_classfile.specs.declared.entry.Entry.{Entry}
use Rattle.cl_classfile.specs.declared.version.Version.{Version}
use Rattle.cl_classfile.specs.Files.{type_name, text_at}
use Rattle.cl_classfile.specs.Structure.{Structure, MemberInfo}
use Rattle.cl_writer.specs.declared.assembly.TheConstants.{DEFAULT_VERSION}
use Rattle.cl_writer.specs.declared.statement.ClassLine.{ClassLine}
use Rattle.cl_writer.specs.declared.statement.MemberLine.{MemberLine}
use Rattle.cl_writer.specs.Assemblies.{ListedClass, version_of}

-- a name as escaped text
abbrev pub printed_name : Option (List ℕ) → List ℕ
printed_name None = []
printed_name (Some name) = escaped_text name

-- the name of a class or an array (4.4.1)
unfoldable pub printed_type : List Entry → ℕ → List ℕ
printed_type pool i = printed_name (type_name pool i)

-- the name of the superclass, and `-` where there is none (4.1)
abbrev pub printed_super : List Entry → ℕ → List ℕ
printed_super pool super = if super == 0 then codes "-" else printed_type pool super

-- class FLAGS NAME SUPER
abbrev pub class_words : ℕ → List ℕ → List ℕ → List ℕ
class_words flags name super =
    codes "class " ++ four_digits flags ++ codes " " ++ name ++ codes " " ++ super ++ 0x0a ∷ []

-- version MAJOR MINOR, and no line of 52.0
abbrev pub version_line : Version → List ℕ
version_line v =
    if v.major == DEFAULT_VERSION.major && v.minor == DEFAULT_VERSION.minor
    then []
    else codes "version " ++ decimal v.major ++ codes " " ++ decimal v.minor ++ 0x0a ∷ []

-- implements NAME
abbrev pub implements_words : List ℕ → List ℕ
implements_words name = codes "implements " ++ name ++ 0x0a ∷ []

-- field FLAGS NAME DESC, and so a method
abbrev pub member_words : List ℕ → ℕ → List ℕ → List ℕ → List ℕ
member_words word flags name descriptor =
    word ++ four_digits flags ++ codes " " ++ name ++ codes " " ++ descriptor ++ 0x0a ∷ []

-- ---- the lines of a class file

abbrev pub class_line : Structure → List ℕ
class_line f =
    class_words f.flags (printed_type f.pool f.this_class) (printed_super f.pool f.super_class)

-- the line of the class, and that of its version
abbrev pub class_lines : Structure → List ℕ
class_lines f = class_line f ++ version_line f.version

abbrev pub implements_line : List Entry → ℕ → List ℕ
implements_line pool interface = implements_words (printed_type pool interface)

abbrev pub member_line : List ℕ → List Entry → MemberInfo → List ℕ
member_line word pool m =
    member_words word m.flags (printed_name (text_at pool m.name_index))
    (printed_name (text_at pool m.descriptor_index))

-- the lines of a file: the class, its version, its interfaces, its fields, its methods
abbrev pub listing_of : Structure → List ℕ
listing_of f =
    class_lines f
    ++ flat_map (implements_line f.pool) f.interfaces
    ++ flat_map (member_line (codes "field ") f.pool) f.fields
    ++ flat_map (member_line (codes "method ") f.pool) f.methods

-- ---- the lines of a text in this form

-- the name of the superclass, and `-` where there is none
abbrev pub super_text : Option (List ℕ) → List ℕ
super_text None = codes "-"
super_text (Some name) = escaped_text name

abbrev pub class_text : ClassLine → List ℕ
class_text c = class_words c.flags (escaped_text c.name) (super_text c.superclass)

abbrev pub implements_text : List ℕ → List ℕ
implements_text name = implements_words (escaped_text name)

abbrev pub member_text : List ℕ → MemberLine → List ℕ
member_text word m = member_words word m.flags (escaped_text m.name) (escaped_text m.descriptor)

-- all lines but those of `ref`: the class, its version, its interfaces, its fields, its methods
abbrev pub listed_lines : ListedClass → List ℕ
listed_lines l =
    (class_text l.class ++ version_line (version_of l))
    ++ flat_map implements_text l.interfaces
    ++ flat_map (member_text (codes "field ")) l.fields
    ++ flat_map (member_text (codes "method ")) l.methods
