-- The lines of a class, by what they say, and which line is the first that is wrong.
use Rattle.std.specs.Prelude.{
  ◌≡◌,
  ◌⊎◌,
  ◌≤◌,
  ℕ,
  Bool,
  true,
  false,
  List,
  [],
  ◌∷◌,
  ◌++◌,
  count_by,
  fold,
  Option,
  Some,
  None,
  unwrap_or,
  Result,
  Ok,
  Err,
}
use Rattle.std.specs.List.{AllZip}
use Rattle.cl_lines.specs.Lines.{Numbered, words_of}
use Rattle.cl_classfile.specs.declared.version.Version as classfile
use Rattle.cl_writer.specs.declared.item.Item.{Item}
use Rattle.cl_writer.specs.declared.statement.ClassLine.{ClassLine}
use Rattle.cl_writer.specs.declared.statement.MemberLine.{MemberLine}
use Rattle.cl_writer.specs.declared.statement.Statement.{Statement}
use Rattle.cl_writer.specs.declared.statement.Statement.TheVariants.{
  Implements,
  Field,
  Method,
  Ref,
  Version,
}
use Rattle.cl_writer.specs.declared.assembly.Assembly.{Assembly}
use Rattle.cl_writer.specs.declared.assembly.TheConstants.{DEFAULT_VERSION}
use Rattle.cl_writer.specs.declared.fault.AssembleFault.{AssembleFault}
use Rattle.cl_writer.specs.declared.fault.AssembleFault.TheVariants.{Memory, BadLine, Invalid}
use Rattle.cl_writer.specs.Statements.{IsClassLine, Says}

-- what the lines of a class say, each kind in its order
pub record ListedClass : Type 0 where
  pub class : ClassLine
  pub version : Option classfile.Version
  pub interfaces : List (List ℕ)
  pub fields : List MemberLine
  pub methods : List MemberLine
  pub references : List Item

-- the same of what was read
abbrev pub lists_of : Assembly → ListedClass
lists_of a =
    record {
      class = a.class;
      version = a.version;
      interfaces = a.interfaces.items;
      fields = a.fields.items;
      methods = a.methods.items;
      references = a.references.items;
    }

-- the line of the class alone
abbrev pub class_alone : ClassLine → ListedClass
class_alone class =
    record {
      class = class;
      version = None;
      interfaces = [];
      fields = [];
      methods = [];
      references = [];
    }

-- the version that is said, and 52.0 where none is
abbrev pub version_of : ListedClass → classfile.Version
version_of l = unwrap_or l.version DEFAULT_VERSION

-- one line more stands at the end of its kind
abbrev pub with_said : ListedClass → Statement → ListedClass
with_said l (Implements name) = record l { interfaces = l.interfaces ++ name ∷ [] }
with_said l (Field line) = record l { fields = l.fields ++ line ∷ [] }
with_said l (Method line) = record l { methods = l.methods ++ line ∷ [] }
with_said l (Ref item) = record l { references = l.references ++ item ∷ [] }
with_said l (Version version) = record l { version = Some version }

-- a line that says a version
abbrev pub is_version : Statement → Bool
is_version (Version version) = true
is_version (Implements name) = false
is_version (Field line) = false
is_version (Method line) = false
is_version (Ref item) = false

-- at most one line says a version
abbrev pub VersionAtMostOnce : List Statement → Type 0
VersionAtMostOnce statements = count_by is_version statements ≤ 1

-- each line says what stands at its place
abbrev pub AllSay : List Numbered → List Statement → Type 0
AllSay = AllZip (λ line said. Says (words_of line.text) said)

-- the lines behind that of the class say this
pub record IsRest (class : ClassLine) (lines : List Numbered) (listed : ListedClass) : Type 0 where
  pub statements : List Statement
  pub said : AllSay lines statements
  pub once : VersionAtMostOnce statements
  pub is : listed ≡ fold with_said (class_alone class) statements

-- after lines that say something, a line says nothing, or a second version
pub record StopsAt (lines : List Numbered) (number : ℕ) : Type 0 where
  pub front : List Numbered
  pub line : Numbered
  pub behind : List Numbered
  pub statements : List Statement
  pub cut : lines ≡ front ++ line ∷ behind
  pub said : AllSay front statements
  pub once : VersionAtMostOnce statements
  pub bad : (s : Statement) → Says (words_of line.text) s
      → VersionAtMostOnce (statements ++ s ∷ []) → ⊥
  pub is : number ≡ line.number

-- what the lines behind that of the class are read as
abbrev pub RestOf : ClassLine → List Numbered → Result Assembly AssembleFault → Type 0
RestOf class lines (Ok a) = IsRest class lines (lists_of a)
RestOf class lines (Err (BadLine n)) = StopsAt lines n
RestOf class lines (Err (Invalid f)) = ⊥
RestOf class lines (Err Memory) = Unit {0}

-- the first line is that of the class, and the others say the rest
abbrev pub IsRead : List Numbered → ListedClass → Type 0
IsRead [] listed = ⊥
IsRead (l ∷ ls) listed = IsClassLine (words_of l.text) listed.class × IsRest listed.class ls listed

-- the first line that is wrong: 0 where there is no line
abbrev pub IsBadAt : List Numbered → ℕ → Type 0
IsBadAt [] n = n ≡ 0
IsBadAt (l ∷ ls) n =
    ((n ≡ l.number) × ((class : ClassLine) → IsClassLine (words_of l.text) class → ⊥))
    ⊎ (((class : ClassLine) × IsClassLine (words_of l.text) class) × StopsAt ls n)

-- what the lines of a text, without the skipped ones, are read as
abbrev pub LinesOf : List Numbered → Result Assembly AssembleFault → Type 0
LinesOf lines (Ok a) = IsRead lines (lists_of a)
LinesOf lines (Err (BadLine n)) = IsBadAt lines n
LinesOf lines (Err (Invalid f)) = ⊥
LinesOf lines (Err Memory) = Unit {0}
