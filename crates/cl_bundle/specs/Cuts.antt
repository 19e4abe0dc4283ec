-- What the code that cuts a bundle answers, in the words of its sections.
use Rattle.std.specs.Prelude.{◌≡◌, ℕ, ⊤, List, [], ◌++◌, map, Option, Some, None, Result, Ok, Err}
use Rattle.cl_lines.specs.Lines.{Numbered, words_of, lines_in}
use Rattle.cl_bundle.specs.Sections.{
  Cut,
  Heading,
  InnerLine,
  ClassLine,
  ScriptLine,
  WrongLine,
  Part,
  Parts,
  add_class,
  cut_from,
  cut_of,
  heading_of,
  parts_from,
  with_config,
}
use Rattle.cl_bundle.specs.declared.fault.BundleFault.{BundleFault}
use Rattle.cl_bundle.specs.declared.fault.BundleFault.TheVariants.{BadLine, Memory}
use Rattle.cl_bundle.specs.declared.sections.ClassSection.{ClassSection}
use Rattle.cl_bundle.specs.declared.sections.Sections.{Sections}
use Rattle.cl_bundle.specs.declared.sections.Body.{Body}
use Rattle.cl_bundle.specs.declared.sections.End.{End}
use Rattle.cl_bundle.specs.declared.sections.End.TheVariants as ends

-- a class section that the code cuts, as a part of the text
abbrev pub cut_part : ClassSection → Part
cut_part c = record { line = c.line; loader = c.loader.now; name = c.name; body = c.body.now }

-- the sections that the code cuts, as those of the text
abbrev pub sections_of : Sections → Cut
sections_of s =
    record { config = s.config.now; classes = map cut_part s.classes.items; script = s.script.now }

-- a line that is wrong, or out of memory, of which nothing is said
abbrev pub IsWrongLine : {A : Type 0} → Result A ℕ → BundleFault → Type 0
IsWrongLine r (BadLine n) = r ≡ Err n
IsWrongLine r Memory = ⊤
IsWrongLine r _ = ⊥

-- what cutting a text into sections answers
abbrev pub CutOf : List ℕ → Result Sections BundleFault → Type 0
CutOf text (Ok s) = cut_of text ≡ Ok (sections_of s)
CutOf text (Err fault) = IsWrongLine (cut_of text) fault

-- the section line that a line is
abbrev pub heading_from : Option End → Heading
heading_from None = InnerLine
heading_from (Some (ends.Class line loader name)) = ClassLine loader.now name
heading_from (Some ends.Script) = ScriptLine

-- a section line has its own number
abbrev pub HasNumber : ℕ → Option End → Type 0
HasNumber n (Some (ends.Class line loader name)) = line ≡ n
HasNumber n _ = ⊤

-- what asking whether a line is a section line answers
abbrev pub SectionLineOf : ℕ → List ℕ → Result (Option End) BundleFault → Type 0
SectionLineOf n line (Ok end) = (heading_of (words_of line) ≡ heading_from end) × HasNumber n end
SectionLineOf n line (Err (BadLine m)) = (heading_of (words_of line) ≡ WrongLine) × (m ≡ n)
SectionLineOf n line (Err Memory) = ⊤
SectionLineOf n line (Err _) = ⊥

-- the parts of what is left of a text
abbrev pub section_parts : Numbered → Result Parts ℕ
section_parts left = parts_from left.number (lines_in left.text)

-- what the line that ends a section begins, and what is left
abbrev pub ended_by : End → Numbered → Result Parts ℕ
ended_by (ends.Class line loader name) left = add_class line loader.now name (section_parts left)
ended_by ends.Script left = Ok (record { body = []; classes = []; script = left.text })

-- bytes before the parts
abbrev pub add_front : List ℕ → Result Parts ℕ → Result Parts ℕ
add_front front (Ok p) =
    Ok (record { body = front ++ p.body; classes = p.classes; script = p.script })
add_front front (Err n) = Err n

-- what taking the lines up to the next section line answers
abbrev pub BodyOf : Numbered → Result Body BundleFault → Numbered → Type 0
BodyOf old (Ok body) new = section_parts old ≡ add_front body.text.now (ended_by body.end new)
BodyOf old (Err fault) new = IsWrongLine (section_parts old) fault

-- the sections of what is left of a text, from `%config` on
abbrev pub cuts_of : Numbered → Result Cut ℕ
cuts_of left = cut_from left.number (lines_in left.text)

-- what looking for `%config` answers
abbrev pub OpeningOf : Numbered → Result (Unit {0}) BundleFault → Numbered → Type 0
OpeningOf old (Ok _) new = cuts_of old ≡ with_config (section_parts new)
OpeningOf old (Err fault) new = IsWrongLine (cuts_of old) fault
