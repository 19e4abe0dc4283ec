use Rattle.std.proofs.Common.{◌≡◌, length, map}
use Rattle.toml.specs.View.{view, items_view}
use Rattle.cl_config.specs.declared.fault.ConfigFault.TheVariants.{BadLoader}
use Rattle.cl_config.specs.Entries.{entry_of, entries_of}
use Rattle.cl_config.proofs.Each.{IsSoFar}
use Rattle.cl_config.proofs.entry.entries_in.Given as goal

abbrev pub invariant-loop-value : goal.invariant-loop-value
invariant-loop-value l = IsSoFar (λ before v. entry_of (BadLoader (length before)) (map (λ e. e.name) before) (view v)) l.loaders.items l.value-index l.values (entries_of (items_view l.values)) × (l.names ≡ map (λ e. e.name) l.loaders.items)
