use Rattle.cl_registry.specs.Imposing.{AreFirstPrepared}
use Rattle.cl_registry.proofs.registry.Registry.count_prepared.Given as goal

abbrev pub invariant-loop-at : goal.invariant-loop-at
invariant-loop-at g l = AreFirstPrepared l.self l.lineage l.at
