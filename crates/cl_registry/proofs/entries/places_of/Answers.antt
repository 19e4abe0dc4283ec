use Rattle.std.proofs.Common.{◌<◌, length, subst, ℕ}
use Rattle.cl_classfile.specs.Files.{file_of}
use Rattle.cl_model.specs.Classes.{supers}
use Rattle.cl_registry.specs.Tables.{placed_at}
use Rattle.cl_registry.proofs.Steps.{places_more}
use Rattle.cl_registry.proofs.entries.places_of.Goals as goal

pub loop-at-preserved : goal.loop-at-preserved
loop-at-preserved g c =
    let below : c.loop-at.at < length (supers (file_of c.args.draft.now.file)) = subst (λ (n : ℕ). c.loop-at.at < n) c.supertypes-count.ensures c.loop-at-test.true in
    places_more (placed_at c.args.tables.now.items c.args.draft.now.class.loader) (supers (file_of c.args.draft.now.file)) c.loop-at.at c.place_behind.result c.loop-at.places.items c.push.new.self.items
    below c.in_ok-push.ensures.items c.loop-at.invariant c.place_behind.ensures
