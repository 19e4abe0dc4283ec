use Rattle.std.proofs.Common.{length, map}
use Rattle.cl_config.specs.Configs.{loader_of, loaders_of}
use Rattle.cl_config.proofs.Each.{IsSoFar}
use Rattle.cl_config.proofs.loader.loaders_of.Given as goal

abbrev pub invariant-loop-entry : goal.invariant-loop-entry
invariant-loop-entry l = IsSoFar (λ before. loader_of (map (λ e. e.name) l.entries) (length before)) l.loaders.items l.entry-index l.entries (loaders_of l.entries)
