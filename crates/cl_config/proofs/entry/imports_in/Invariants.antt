use Rattle.std.proofs.Common.{[]}
use Rattle.toml.specs.View.{view, items_view}
use Rattle.cl_config.specs.Fields.{each_from}
use Rattle.cl_config.specs.Entries.{import_at}
use Rattle.cl_config.proofs.Each.{IsSoFar}
use Rattle.cl_config.proofs.entry.imports_in.Given as goal

abbrev pub invariant-loop-value : goal.invariant-loop-value
invariant-loop-value l = IsSoFar (λ before v. import_at l.wrong (view v)) l.links.items l.value-index l.values (each_from (λ before. import_at l.wrong) [] (items_view l.values))
