-- Lines of one word, of two words, of three words, and of words behind a keyword, by what each word says.
use Rattle.std.proofs.Common.{◌≡◌, ℕ, ℤ, List, [], ◌∷◌, Option, Some, codes, refl}
use Rattle.cl_lines.specs.Numbers.{WritesNumber}
use Rattle.cl_names.specs.Escape.{WritesName}
use Rattle.cl_classfile.specs.declared.version.Version as classfile
use Rattle.cl_writer.specs.declared.item.MemberName.{MemberName}
use Rattle.cl_writer.specs.declared.statement.ClassLine.{ClassLine}
use Rattle.cl_writer.specs.declared.statement.MemberLine.{MemberLine}
use Rattle.cl_writer.specs.Statements.{hex_flags, WritesInteger, WritesSuper, IsName, IsInteger, IsMemberLine, IsMemberName, IsClassLine, IsVersion, Begins}

-- four hexadecimal digits write these flags
abbrev pub WritesFlags : List ℕ → ℕ → Type 0
WritesFlags text flags = hex_flags text ≡ Some flags

-- the one word says this, where P says what a word says
pub record One {A : Type 0} (P : List ℕ → A → Type 0) (words : List (List ℕ)) (said : A) : Type 0 where
  pub text : List ℕ
  pub spelled : words ≡ text ∷ []
  pub says : P text said

-- the two words say these, where P and Q say what the first and the second says
pub record Two {A B : Type 0} (P : List ℕ → A → Type 0) (Q : List ℕ → B → Type 0) (words : List (List ℕ)) (said : A × B) : Type 0 where
  pub first : List ℕ
  pub second : List ℕ
  pub spelled : words ≡ first ∷ second ∷ []
  pub one : P first said.0
  pub two : Q second said.1

-- the three words say these, where P, Q and R say what the first, the second and the third says
pub record Three {A B C : Type 0} (P : List ℕ → A → Type 0) (Q : List ℕ → B → Type 0) (R : List ℕ → C → Type 0) (words : List (List ℕ)) (said : A × B × C) : Type 0 where
  pub first : List ℕ
  pub second : List ℕ
  pub third : List ℕ
  pub spelled : words ≡ first ∷ second ∷ third ∷ []
  pub one : P first said.0
  pub two : Q second said.1
  pub three : R third said.2

-- ---- the lines so

pub name_words : (words : List (List ℕ)) (name : List ℕ) → IsName words name → One WritesName words name
name_words words name t = record { text = t.text; spelled = t.spelled; says = t.writes }

pub integer_words : (words : List (List ℕ)) (number : ℤ) → IsInteger words number → One WritesInteger words number
integer_words words number t = record { text = t.text; spelled = t.spelled; says = t.writes }

abbrev pub version : ℕ × ℕ → classfile.Version
version said = record { major = said.0; minor = said.1 }

pub version_words : (words : List (List ℕ)) (v : classfile.Version) → IsVersion words v → Two WritesNumber WritesNumber words (v.major, v.minor)
version_words words v t = record { first = t.major_text; second = t.minor_text; spelled = t.spelled; one = t.major; two = t.minor }

abbrev pub member_line : ℕ × List ℕ × List ℕ → MemberLine
member_line said = record { flags = said.0; name = said.1; descriptor = said.2 }

pub member_line_words : (words : List (List ℕ)) (l : MemberLine) → IsMemberLine words l → Three WritesFlags WritesName WritesName words (l.flags, l.name, l.descriptor)
member_line_words words l t = record { first = t.flags_text; second = t.name_text; third = t.descriptor_text; spelled = t.spelled; one = t.flags; two = t.name; three = t.descriptor }

abbrev pub member_name : List ℕ × List ℕ × List ℕ → MemberName
member_name said = record { class = said.0; name = said.1; descriptor = said.2 }

pub member_name_words : (words : List (List ℕ)) (m : MemberName) → IsMemberName words m → Three WritesName WritesName WritesName words (m.class, m.name, m.descriptor)
member_name_words words m t = record { first = t.class_text; second = t.name_text; third = t.descriptor_text; spelled = t.spelled; one = t.class; two = t.name; three = t.descriptor }

abbrev pub class_line : ℕ × List ℕ × Option (List ℕ) → ClassLine
class_line said = record { flags = said.0; name = said.1; superclass = said.2 }

pub class_line_words : (words : List (List ℕ)) (l : ClassLine) → IsClassLine words l → Begins (codes "class") words (λ rest. Three WritesFlags WritesName WritesSuper rest (l.flags, l.name, l.superclass))
class_line_words words l t = record {
  rest = t.flags_text ∷ t.name_text ∷ t.super_text ∷ [];
  spelled = t.spelled;
  behind = record { first = t.flags_text; second = t.name_text; third = t.super_text; spelled = refl; one = t.flags; two = t.name; three = t.superclass };
}
