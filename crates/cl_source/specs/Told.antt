-- When what was found is what the source tells.
use Rattle.std.specs.Prelude.{◌≡◌, ℕ, List, Option, Some, None, Result, Ok, Err}
use Rattle.cl_model.specs.Content.{Content, content_at}
use Rattle.cl_source.specs.Views.{Found}
use Rattle.cl_source.specs.declared.source.SourceFault.{SourceFault}
use Rattle.cl_source.specs.declared.source.SourceFault.TheVariants.{Memory}

-- what is found for a loader and name, where a content is told; of an untold source nothing is said
-- (5.3.1, 5.3.2)
abbrev pub IsTold : Option Content → ℕ → List ℕ → Option (List ℕ) → Type 0
IsTold None loader name found = Unit {0}
IsTold (Some content) loader name found = content_at content loader name ≡ found

-- what a source in memory answers: what its content has for a loader and name, or that memory ran
-- out (5.3.1, 5.3.2)
abbrev pub GivesContent : Content → ℕ → List ℕ → Result Found SourceFault → Type 0
GivesContent content loader name (Ok found) = found.bytes ≡ content_at content loader name
GivesContent content loader name (Err fault) = fault ≡ Memory
