use Rattle.std.proofs.Common.{◌≡◌, map, take}
use Rattle.cl_classfile.specs.Files.{file_of}
use Rattle.cl_model.specs.Classes.{supers}
use Rattle.cl_registry.specs.Parts.{place_by}
use Rattle.cl_registry.specs.Tables.{placed_at}
use Rattle.cl_registry.proofs.entries.places_of.Given as goal

abbrev pub invariant-loop-at : goal.invariant-loop-at
invariant-loop-at g l = l.places.items ≡ map (place_by (placed_at l.tables.items l.draft.class.loader)) (take l.at (supers (file_of l.draft.file)))
