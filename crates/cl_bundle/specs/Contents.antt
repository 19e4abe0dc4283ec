-- What a class section of a bundle writes: bytes in hexadecimal, or a class as assembler text.
use Rattle.std.specs.Prelude.{
  ◌≡◌,
  ◌⊎◌,
  ◌<◌,
  ◌≤◌,
  ℕ,
  ⊤,
  Bool,
  false,
  MatchBool,
  List,
  [],
  ◌∷◌,
  ◌++◌,
  length,
  codes,
  string_bytes,
  bytes_eq,
  Option,
  Some,
  None,
  is_some,
  option_map,
  option_and_then,
  Result,
  Ok,
  Err,
  if◌then◌else◌,
}
use Rattle.std.specs.List.{concat}
use Rattle.std.specs.Result.{result_ok}
use Rattle.std.specs.Option.{ok_or}
use Rattle.hex.specs.Hex.{decode_of}
use Rattle.cl_classfile.specs.Structure.{Structure, Spells}
use Rattle.cl_model.specs.Classes as classes
use Rattle.cl_model.specs.Lines as reports
use Rattle.cl_writer.specs.Assembled.{AssembleOf, IsAssembled}
use Rattle.cl_writer.specs.declared.fault.AssembleFault.{AssembleFault}
use Rattle.cl_writer.specs.declared.fault.AssembleFault.TheVariants as assembler
use Rattle.cl_lines.specs.Lines.{Numbered, words_of, stated_lines}
use Rattle.cl_bundle.specs.Sections.{Part}
use Rattle.cl_bundle.specs.declared.fault.BundleFault.{BundleFault}
use Rattle.cl_bundle.specs.declared.fault.BundleFault.TheVariants.{BadLine, Class, Memory}
use Rattle.cl_source.specs.declared.size.TheConstants.{MOST_CLASS_BYTES}

-- the lines of a class section that are not skipped, counted from the one after `%class`
abbrev pub content_lines : Part → List Numbered
content_lines part = stated_lines part.body

-- ---- hexadecimal

-- the words behind `@hex`, put together
abbrev pub line_digits : List (List ℕ) → Option (List ℕ)
line_digits [] = None
line_digits (word ∷ words) =
    if bytes_eq word (codes "@hex") then Some (concat words) else None

-- the same of each line, put together
abbrev pub all_digits : List Numbered → Option (List ℕ)
all_digits [] = Some []
all_digits (line ∷ lines) =
    option_and_then (λ front. option_map (λ rest. front ++ rest) (all_digits lines))
    (line_digits (words_of line.text))

-- the bytes that the digits of such lines write, two each
abbrev pub hex_bytes : List Numbered → Option (List ℕ)
hex_bytes lines = option_and_then (λ digits. result_ok (decode_of digits)) (all_digits lines)

-- the first line begins with `@hex`
abbrev pub is_hex : List Numbered → Bool
is_hex [] = false
is_hex (line ∷ lines) = is_some (line_digits (words_of line.text))

-- what the `@hex` lines of a class section write, or else the line of `%class` is wrong
abbrev pub hex_written : Part → Result (List ℕ) BundleFault
hex_written part = ok_or (hex_bytes (content_lines part)) (BadLine part.line)

-- ---- assembler text

-- bytes that spell the class file that the lines describe (JVMS SE 8, 4)
pub record IsSpelledBy (lines : List Numbered) (bytes : List ℕ) : Type 0 where
  pub file : Structure
  pub assembled : IsAssembled lines file
  pub spelled : Spells bytes file

-- this is wrong with the lines; out of memory never is
abbrev pub IsRefused : List Numbered → AssembleFault → Type 0
IsRefused lines assembler.Memory = ⊥
IsRefused lines fault = AssembleOf lines (Err fault)

-- `N@L`, as a report writes a class: the name as escaped text and the loader's name
abbrev pub class_text : Part → List ℕ
class_text part = reports.class_text (part.loader ∷ []) (classes.class part.name 0)

-- what assembler text gives: bytes, or its fault, with the class that it is a fault of
abbrev pub TextWritten : Part → Result (List ℕ) BundleFault → Type 0
TextWritten part (Ok bytes) = IsSpelledBy (content_lines part) bytes
TextWritten part (Err (Class class fault)) =
    IsRefused (content_lines part) fault × (string_bytes class ≡ class_text part)
TextWritten part (Err _) = ⊥

-- ---- either

-- what a class section writes: one whose first line begins with `@hex` has such lines alone, any
-- other is assembler text
abbrev pub Written : Part → Result (List ℕ) BundleFault → Type 0
Written part result =
    MatchBool (is_hex (content_lines part)) (result ≡ hex_written part) (TextWritten part result)

-- more bytes than a class file may have
pub record IsTooLong (part : Part) : Type 0 where
  pub bytes : List ℕ
  pub written : Written part (Ok bytes)
  pub over : MOST_CLASS_BYTES < length bytes

-- the bytes that a class section has for its name, or what is wrong with it: bytes that are too
-- many are told by the line of `%class`
abbrev pub ContentOf : Part → Result (List ℕ) BundleFault → Type 0
ContentOf part (Ok bytes) = Written part (Ok bytes) × (length bytes ≤ MOST_CLASS_BYTES)
ContentOf part (Err fault) =
    Written part (Err fault) ⊎ ((fault ≡ BadLine part.line) × IsTooLong part)

-- the fault of a class section whose text has this one
abbrev pub FaultOf : Part → AssembleFault → BundleFault → Type 0
FaultOf part said (Class class fault) = (fault ≡ said) × (string_bytes class ≡ class_text part)
FaultOf part said Memory = ⊤
FaultOf part said _ = ⊥
