-- What a report says of the registry that it was made from.
use Rattle.std.specs.Prelude.{◌≡◌, ◌⊎◌, ◌<◌, ◌≤◌, ◌+◌, ℕ, length, map, Option, Some, All}
use Rattle.cl_model.specs.Content.{Content}
use Rattle.cl_model.specs.Texts.{AnswerNames, EventNames}
use Rattle.cl_registry.specs.declared.report.Report.{Report}
use Rattle.cl_registry.specs.Tables.{Shown, IsKept, IsOpen, round_of}

-- the script, the history, and the answers, each of which was given
pub record IsReport (x : Shown) (r : Report) : Type 0 where
  pub script : r.script.value ≡ x.script
  pub history : r.history ≡ x.history
  pub answers : map (λ a. Some a) r.answers ≡ x.answers

-- each loader that the text of the report names is below this count
pub record IsNamed (count : ℕ) (r : Report) : Type 0 where
  pub history : All (EventNames count) r.history
  pub answers : All (AnswerNames count) r.answers

-- a report was made: of all that the registry kept, with loaders of its configuration alone, and in its last round
pub record IsReported (told : Option Content) (x : Shown) (r : Report) : Type 0 where
  pub whole : IsReport x r
  pub kept : IsKept told x
  pub loaders : IsNamed (length x.config.loaders) r
  pub last : x.script.rounds ≤ round_of x + 1

-- a request has no answer, or there is a later round
abbrev pub IsUnfinished : Shown → Type 0
IsUnfinished x = ((q : ℕ) × IsOpen x q) ⊎ (round_of x + 1 < x.script.rounds)

-- a registry that has no report yet is handed back
abbrev pub IsBack : Shown → Shown → Type 0
IsBack x back = (back ≡ x) × IsUnfinished x
