-- The sections of a bundle, from its lines. The lines are what U+000A parts; an empty one behind
-- the last says nothing.
use Rattle.std.specs.Prelude.{
  ℕ,
  ◌+◌,
  bytes_eq,
  Bool,
  false,
  List,
  [],
  ◌∷◌,
  ◌++◌,
  codes,
  Option,
  Some,
  None,
  option_and_then,
  Result,
  Ok,
  Err,
  if◌then◌else◌,
}
use Rattle.std.specs.List.{join_with_byte}
use Rattle.cl_names.specs.Escape.{unescaped_name}
use Rattle.cl_names.specs.Kind.{is_class_name}
use Rattle.cl_lines.specs.Lines.{lines_in, words_of, is_skipped}

-- what a line is to a bundle, up to the line `%script`
pub data Heading : Type 0 where
  InnerLine : Heading
  ClassLine : (loader : List ℕ) → (name : List ℕ) → Heading
  ScriptLine : Heading
  WrongLine : Heading

-- the name that a word writes as escaped text, where a class may have it (JVMS SE 8, 4.2.1)
abbrev pub class_word : List ℕ → Option (List ℕ)
class_word word =
    option_and_then (λ name. if is_class_name name then Some name else None) (unescaped_name word)

-- a class section begins, where its word is a class's name; else the line is wrong
abbrev pub named_heading : List ℕ → Option (List ℕ) → Heading
named_heading loader (Some name) = ClassLine loader name
named_heading loader None = WrongLine

-- `%class` has two words behind it, a loader's and a class's name
abbrev pub class_heading : List (List ℕ) → Heading
class_heading (loader ∷ name ∷ []) = named_heading loader (class_word name)
class_heading _ = WrongLine

-- `%script` stands alone
abbrev pub script_heading : List (List ℕ) → Heading
script_heading [] = ScriptLine
script_heading (word ∷ words) = WrongLine

-- a section line is told by its first word; `%config` stands at the front alone
abbrev pub heading_of : List (List ℕ) → Heading
heading_of [] = InnerLine
heading_of (word ∷ words) =
    if bytes_eq word (codes "%class")
    then class_heading words
    else if bytes_eq word (codes "%script")
    then script_heading words
    else if bytes_eq word (codes "%config")
    then WrongLine
    else InnerLine

-- a class section: the line of `%class`, its two words, and the lines up to the next section line
pub record Part : Type 0 where
  pub line : ℕ
  pub loader : List ℕ
  pub name : List ℕ
  pub body : List ℕ

-- what follows a line: the lines up to the next section line, the class sections, and what stands
-- behind `%script`
pub record Parts : Type 0 where
  pub body : List ℕ
  pub classes : List Part
  pub script : List ℕ

-- a line in front of what follows it, in the same section
abbrev pub add_line : List ℕ → Result Parts ℕ → Result Parts ℕ
add_line line (Ok p) =
    Ok (record { body = line ++ 0x0a ∷ p.body; classes = p.classes; script = p.script })
add_line line (Err n) = Err n

-- a class section in front of what follows its `%class`: the lines up to the next section line are
-- its own
abbrev pub add_class : ℕ → List ℕ → List ℕ → Result Parts ℕ → Result Parts ℕ
add_class n loader name (Ok p) =
    Ok (record {
      body = [];
      classes = record { line = n; loader = loader; name = name; body = p.body } ∷ p.classes;
      script = p.script;
    })
add_class n loader name (Err m) = Err m

-- a line of this number, before this text with these parts
abbrev pub behind_line : Heading → ℕ → List ℕ → List ℕ → Result Parts ℕ → Result Parts ℕ
behind_line InnerLine n line rest parts = add_line line parts
behind_line (ClassLine loader name) n line rest parts = add_class n loader name parts
behind_line ScriptLine n line rest parts = Ok (record { body = []; classes = []; script = rest })
behind_line WrongLine n line rest parts = Err n

-- the parts of lines, the first with this number, or the line that is wrong; line 0 is one that
-- lacks
abbrev pub parts_from : ℕ → List (List ℕ) → Result Parts ℕ
parts_from n [] = Err 0
parts_from n (line ∷ lines) =
    behind_line (heading_of (words_of line)) n line (join_with_byte 0x0a lines)
    (parts_from (n + 1) lines)

-- a bundle: what follows `%config`, the class sections, and the script
pub record Cut : Type 0 where
  pub config : List ℕ
  pub classes : List Part
  pub script : List ℕ

-- a bundle, from what follows its `%config`
abbrev pub with_config : Result Parts ℕ → Result Cut ℕ
with_config (Ok p) = Ok (record { config = p.body; classes = p.classes; script = p.script })
with_config (Err m) = Err m

-- the words of the line `%config`
abbrev pub is_config : List (List ℕ) → Bool
is_config (word ∷ []) = bytes_eq word (codes "%config")
is_config _ = false

-- only skipped lines stand before `%config`
abbrev pub cut_from : ℕ → List (List ℕ) → Result Cut ℕ
cut_from n [] = Err 0
cut_from n (line ∷ lines) =
    if is_skipped line
    then cut_from (n + 1) lines
    else if is_config (words_of line)
    then with_config (parts_from (n + 1) lines)
    else Err n

-- the sections of a text, or the line that is wrong
abbrev pub cut_of : List ℕ → Result Cut ℕ
cut_of text = cut_from 1 (lines_in text)
