use Rattle.std.proofs.Common.{◌<◌, ℕ}
use Rattle.std.specs.Prelude.{IfSome, slice_get}
use Rattle.cl_classfile.specs.Files.{file_of}
use Rattle.cl_model.specs.Classes.{supers}
use Rattle.cl_hierarchy.specs.Rows.{FitsAs}
use Rattle.cl_registry.specs.Parts.{shared_values}
use Rattle.cl_registry.specs.Tables.{table_row}
use Rattle.cl_registry.proofs.fits.supertypes_fit.Given as goal

abbrev pub invariant-loop-at : goal.invariant-loop-at
invariant-loop-at g l = (k : ℕ) → k < l.at → IfSome (slice_get (supers (file_of l.draft.file)) k) (λ a. IfSome (shared_values (λ r. r.value) (table_row l.tables.items) l.draft.class.loader a.name) (FitsAs l.draft.class a))
