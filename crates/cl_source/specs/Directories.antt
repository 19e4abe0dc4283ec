-- Which file of a directory a name stands for, and what the directory answers for it
-- (JVMS SE 8, 5.3.2).
use Rattle.std.specs.Prelude.{
  ◌≡◌,
  ◌≢◌,
  ℕ,
  ◌==◌,
  ⊤,
  List,
  [],
  ◌∷◌,
  ◌++◌,
  codes,
  Option,
  Some,
  None,
  option_map,
  Result,
  Ok,
  Err,
}
use Rattle.std.specs.List.{AllByRecursion, slice_split}
use Rattle.cl_names.specs.Plain.{plain_of}
use Rattle.cl_source.specs.declared.source.Outcome.{Outcome}
use Rattle.cl_source.specs.declared.source.SourceFault.{SourceFault}
use Rattle.cl_source.specs.declared.source.SourceFault.TheVariants.{Memory, Device, TooLarge, Twice}
use Rattle.cl_source.specs.Outcomes.{bytes_of}
use Rattle.cl_source.specs.Views.{Found as Probed}
use Rattle.cl_source.specs.Seen.{Seen, Missing, Refused, GivesAtMost, IsTooLarge}
use Rattle.cl_source.specs.declared.size.TheConstants.{MOST_CLASS_BYTES}

-- what a directory's paths begin with; the empty one is the working directory
abbrev pub within : List ℕ → List ℕ
within [] = []
within (b ∷ bs) = (b ∷ bs) ++ 0x2f ∷ []

-- DIR/NAME.class, where the name has a text in UTF-8
abbrev pub file_path : List ℕ → List ℕ → Option (List ℕ)
file_path dir name = option_map (λ text. within dir ++ text ++ codes ".class") (plain_of name)

-- the name of what stands in a folder: not the folder itself, nor the one above it
abbrev pub IsEntryName : List ℕ → Type 0
IsEntryName part = (part ≢ []) × (part ≢ codes ".") × (part ≢ codes "..")

-- a path that leads nowhere out of its directory: behind the directory's own path, each part between
-- two / is the name of what stands in the folder before it
pub record StaysWithin (dir path : List ℕ) : Type 0 where
  pub rest : List ℕ
  pub joined : path ≡ within dir ++ rest
  pub parts : AllByRecursion IsEntryName (slice_split (λ b. b == 0x2f) rest)

-- the path of a name is looked at, and P holds of it
pub record At (P : List ℕ → Type 0) (path : Option (List ℕ)) : Type 0 where
  pub text : List ℕ
  pub is : path ≡ Some text
  pub holds : P text

-- there is no such file: the name has no path, or nothing stands there
abbrev pub IsAbsent : (List ℕ → Seen → Type 0) → Option (List ℕ) → Type 0
IsAbsent gives None = ⊤
IsAbsent gives (Some path) = gives path Missing

-- bytes that stand there, or nothing
abbrev pub FoundAs : (List ℕ → Seen → Type 0) → Option (List ℕ) → Option (List ℕ) → Type 0
FoundAs gives path (Some bytes) = At (λ p. GivesAtMost (gives p) MOST_CLASS_BYTES bytes) path
FoundAs gives path None = IsAbsent gives path

-- what a directory answers for a path, or for a name that has none: only what is missing is absent
abbrev pub AnswerOf : (List ℕ → Seen → Type 0) → Option (List ℕ) → Result Outcome SourceFault
    → Type 0
AnswerOf gives path (Ok outcome) = FoundAs gives path (bytes_of outcome)
AnswerOf gives path (Err TooLarge) = At (λ p. IsTooLarge (gives p) MOST_CLASS_BYTES) path
AnswerOf gives path (Err Device) = At (λ p. gives p Refused) path
AnswerOf gives path (Err Memory) = ⊤
AnswerOf gives path (Err Twice) = ⊥

-- the path of a name where a loader has a directory; a loader without one has nothing
abbrev pub path_in : Option (List ℕ) → List ℕ → Option (List ℕ)
path_in None name = None
path_in (Some dir) name = file_path dir name

-- what the source answers for it: a probe with these bytes, or the fault
abbrev pub ReadsAs : (List ℕ → Seen → Type 0) → Option (List ℕ) → Result Probed SourceFault → Type 0
ReadsAs gives path (Ok p) = FoundAs gives path p.bytes
ReadsAs gives path (Err fault) = AnswerOf gives path (Err fault)
