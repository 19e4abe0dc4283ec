-- Lines and words of scripts and bundles. Bytes are compared, so a carriage return or a tab is a
-- character like any other.
use Rattle.std.specs.Prelude.{
  ◌≡◌,
  ℕ,
  ◌+◌,
  ◌==◌,
  Bool,
  true,
  false,
  not,
  List,
  [],
  ◌∷◌,
  length,
  filter,
  if◌then◌else◌,
}
use Rattle.cl_lines.specs.declared.lines.Line.{Line}
use Rattle.std.specs.List.{after_first, before_first, slice_split}

-- the parts of a text, where an empty one at its end is none
abbrev pub without_empty_end : List (List ℕ) → List (List ℕ)
without_empty_end [] = []
without_empty_end (part ∷ []) = if length part == 0 then [] else part ∷ []
without_empty_end (part ∷ next ∷ more) = part ∷ without_empty_end (next ∷ more)

-- what U+000A parts a text into; behind one at its end stands an empty part
abbrev pub lines_in : List ℕ → List (List ℕ)
lines_in text = slice_split (λ b. b == 0x0a) text

-- the lines of a text, which U+000A alone parts; a last line without one counts
abbrev pub lines_of : List ℕ → List (List ℕ)
lines_of text = without_empty_end (lines_in text)

-- the words of a line, which one or more U+0020 part
abbrev pub words_of : List ℕ → List (List ℕ)
words_of line = filter (λ word. not (length word == 0)) (slice_split (λ b. b == 0x20) line)

-- a word that begins with `#`
abbrev pub is_remark : List ℕ → Bool
is_remark [] = false
is_remark (b ∷ bs) = b == 0x23

-- no word, or a first word that begins with `#`
abbrev pub skips : List (List ℕ) → Bool
skips [] = true
skips (word ∷ words) = is_remark word

-- a line that is empty, all spaces, or a remark
abbrev pub is_skipped : List ℕ → Bool
is_skipped line = skips (words_of line)

-- a line with its number
pub record Numbered : Type 0 where
  pub number : ℕ
  pub text : List ℕ

-- a line that the code cuts, without where it lies
abbrev pub plain_line : Line → Numbered
plain_line line = record { number = line.number; text = line.text.now }

-- the first line is cut off a text whose first line has this number
pub record CutsLine (old line new : Numbered) : Type 0 where
  pub number : line.number ≡ old.number
  pub text : line.text ≡ before_first (λ b. b == 0x0a) old.text
  pub rest : new.text ≡ after_first (λ b. b == 0x0a) old.text
  pub next : new.number ≡ old.number + 1

-- lines with their numbers, skipped ones included
abbrev pub numbered_from : ℕ → List (List ℕ) → List Numbered
numbered_from number [] = []
numbered_from number (line ∷ lines) =
    record { number = number; text = line } ∷ numbered_from (number + 1) lines

-- the lines of a text that are not skipped, where its first line has this number
abbrev pub stated_from : ℕ → List ℕ → List Numbered
stated_from number text =
    filter (λ line. not (is_skipped line.text)) (numbered_from number (lines_of text))

-- the lines of a whole text that are not skipped, counted from 1
abbrev pub stated_lines : List ℕ → List Numbered
stated_lines text = stated_from 1 text
