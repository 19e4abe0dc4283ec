use Rattle.cl_config.specs.Configs.{earlier_named, parents_of}
use Rattle.cl_config.proofs.Each.{IsSoFar}
use Rattle.cl_config.proofs.loader.parents_of.Given as goal

abbrev pub invariant-loop-parent : goal.invariant-loop-parent
invariant-loop-parent l = IsSoFar (λ before. earlier_named l.names l.i) l.items.items l.parent-index l.parents (parents_of l.names l.i l.parents)
