-- What the lines of assembler text say. Words count from the left, a keyword first.
use Rattle.std.specs.Prelude.{
  ◌≡◌,
  ◌≢◌,
  ℕ,
  ℤ,
  List,
  [],
  ◌∷◌,
  Option,
  Some,
  None,
  codes,
  slice_index,
  FitsSigned,
}
use Rattle.std.specs.Int.{w32}
use Rattle.std.specs.Str.Parse.{IsNumeral, without_leading_sign, signed_digits_value}
use Rattle.cl_names.specs.Escape.{number_written, WritesName}
use Rattle.cl_lines.specs.Numbers.{WritesNumber}
use Rattle.cl_classfile.specs.declared.version.Version as classfile
use Rattle.cl_writer.specs.declared.item.MemberKind.{MemberKind}
use Rattle.cl_writer.specs.declared.item.MemberKind.TheVariants as kinds
use Rattle.cl_writer.specs.declared.item.MemberName.{MemberName}
use Rattle.cl_writer.specs.declared.item.Item.{Item}
use Rattle.cl_writer.specs.declared.item.Item.TheVariants.{
  Text,
  Integer,
  Class,
  NameAndType,
  Member,
}
use Rattle.cl_writer.specs.declared.statement.ClassLine.{ClassLine}
use Rattle.cl_writer.specs.declared.statement.MemberLine.{MemberLine}
use Rattle.cl_writer.specs.declared.statement.Statement.{Statement}
use Rattle.cl_writer.specs.declared.statement.Statement.TheVariants.{
  Implements,
  Field,
  Method,
  Ref,
  Version,
}

-- the value of four hexadecimal digits of either case
abbrev pub hex_flags : List ℕ → Option ℕ
hex_flags (a ∷ b ∷ c ∷ d ∷ []) = number_written a b c d
hex_flags _ = None

-- a minus, if there is one, and decimal digits write this number of 32 bits (4.4.4)
pub record WritesInteger (text : List ℕ) (number : ℤ) : Type 0 where
  pub unsigned : slice_index text 0 ≢ 0x2b
  pub digits : IsNumeral 10 (without_leading_sign text)
  pub value : number ≡ signed_digits_value 10 text
  pub fits : FitsSigned w32 number

-- `-` writes that there is no superclass
abbrev pub WritesSuper : List ℕ → Option (List ℕ) → Type 0
WritesSuper text None = text ≡ codes "-"
WritesSuper text (Some name) = (text ≢ codes "-") × WritesName text name

-- NAME
pub record IsName (words : List (List ℕ)) (name : List ℕ) : Type 0 where
  pub text : List ℕ
  pub spelled : words ≡ text ∷ []
  pub writes : WritesName text name

-- N
pub record IsInteger (words : List (List ℕ)) (number : ℤ) : Type 0 where
  pub text : List ℕ
  pub spelled : words ≡ text ∷ []
  pub writes : WritesInteger text number

-- MAJOR MINOR
pub record IsVersion (words : List (List ℕ)) (version : classfile.Version) : Type 0 where
  pub major_text : List ℕ
  pub minor_text : List ℕ
  pub spelled : words ≡ major_text ∷ minor_text ∷ []
  pub major : WritesNumber major_text version.major
  pub minor : WritesNumber minor_text version.minor

-- FLAGS NAME DESC
pub record IsMemberLine (words : List (List ℕ)) (line : MemberLine) : Type 0 where
  pub flags_text : List ℕ
  pub name_text : List ℕ
  pub descriptor_text : List ℕ
  pub spelled : words ≡ flags_text ∷ name_text ∷ descriptor_text ∷ []
  pub flags : hex_flags flags_text ≡ Some line.flags
  pub name : WritesName name_text line.name
  pub descriptor : WritesName descriptor_text line.descriptor

-- CLASS NAME DESC
pub record IsMemberName (words : List (List ℕ)) (member : MemberName) : Type 0 where
  pub class_text : List ℕ
  pub name_text : List ℕ
  pub descriptor_text : List ℕ
  pub spelled : words ≡ class_text ∷ name_text ∷ descriptor_text ∷ []
  pub class : WritesName class_text member.class
  pub name : WritesName name_text member.name
  pub descriptor : WritesName descriptor_text member.descriptor

-- class FLAGS NAME SUPER
pub record IsClassLine (words : List (List ℕ)) (line : ClassLine) : Type 0 where
  pub flags_text : List ℕ
  pub name_text : List ℕ
  pub super_text : List ℕ
  pub spelled : words ≡ codes "class" ∷ flags_text ∷ name_text ∷ super_text ∷ []
  pub flags : hex_flags flags_text ≡ Some line.flags
  pub name : WritesName name_text line.name
  pub superclass : WritesSuper super_text line.superclass

-- a keyword, and behind it words of which P holds
pub record Begins (keyword : List ℕ) (words : List (List ℕ)) (P : List (List ℕ) → Type 0)
    : Type 0 where
  pub rest : List (List ℕ)
  pub spelled : words ≡ keyword ∷ rest
  pub behind : P rest

-- the word of each kind of member (4.4.2)
abbrev pub kind_word : MemberKind → List ℕ
kind_word kinds.Field = codes "field"
kind_word kinds.Method = codes "method"
kind_word kinds.InterfaceMethod = codes "imethod"

-- the words behind `ref` ask for this entry (4.4)
abbrev pub Refers : List (List ℕ) → Item → Type 0
Refers words (Text text) = ⊥
Refers words (Integer number) = Begins (codes "int") words (λ rest. IsInteger rest number)
Refers words (Class name) = Begins (codes "class") words (λ rest. IsName rest name)
Refers words (NameAndType name descriptor) = ⊥
Refers words (Member kind member) = Begins (kind_word kind) words (λ rest. IsMemberName rest member)

-- a line after the first says this
abbrev pub Says : List (List ℕ) → Statement → Type 0
Says words (Implements name) = Begins (codes "implements") words (λ rest. IsName rest name)
Says words (Field line) = Begins (codes "field") words (λ rest. IsMemberLine rest line)
Says words (Method line) = Begins (codes "method") words (λ rest. IsMemberLine rest line)
Says words (Ref item) = Begins (codes "ref") words (λ rest. Refers rest item)
Says words (Version version) = Begins (codes "version") words (λ rest. IsVersion rest version)
