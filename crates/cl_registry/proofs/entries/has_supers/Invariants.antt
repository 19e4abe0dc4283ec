use Rattle.std.proofs.Common.{◌≡◌, ◌<◌, ℕ, true, is_some}
use Rattle.std.specs.Prelude.{slice_get}
use Rattle.cl_classfile.specs.Files.{file_of}
use Rattle.cl_model.specs.Classes.{supers}
use Rattle.cl_registry.specs.Parts.{is_there}
use Rattle.cl_registry.specs.Tables.{table_row}
use Rattle.cl_registry.proofs.entries.has_supers.Given as goal

abbrev pub invariant-loop-at : goal.invariant-loop-at
invariant-loop-at g l = (k : ℕ) → k < l.at → is_there (λ n. is_some (table_row l.tables.items l.draft.class.loader n)) (slice_get (supers (file_of l.draft.file)) k) ≡ true
