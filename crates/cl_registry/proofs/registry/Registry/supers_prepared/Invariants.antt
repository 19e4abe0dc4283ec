use Rattle.std.proofs.Common.{◌<◌, ℕ}
use Rattle.std.specs.Prelude.{IfSome, slice_get}
use Rattle.cl_classfile.specs.Files.{file_of}
use Rattle.cl_model.specs.Classes.{supers}
use Rattle.cl_registry.specs.Imposing.{IsPreparedAbove}
use Rattle.cl_registry.proofs.registry.Registry.supers_prepared.Given as goal

abbrev pub invariant-loop-at : goal.invariant-loop-at
invariant-loop-at g l = (k : ℕ) → k < l.at → IfSome (slice_get (supers (file_of l.row.file)) k) (IsPreparedAbove l.self l.row.class)
