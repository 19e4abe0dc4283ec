use Rattle.std.proofs.Common.{◌≡◌, []}
use Rattle.toml.specs.View.{view, items_view}
use Rattle.cl_config.specs.Fields.{each_from}
use Rattle.cl_config.specs.Entries.{parent_at}
use Rattle.cl_config.proofs.Each.{IsSoFar}
use Rattle.cl_config.proofs.entry.parents_in.Given as goal

abbrev pub invariant-loop-value : goal.invariant-loop-value
invariant-loop-value l = IsSoFar (λ before v. parent_at l.wrong before (view v)) l.texts.items l.value-index l.values (each_from (parent_at l.wrong) [] (items_view l.values)) × (l.seen ≡ l.texts.items)
