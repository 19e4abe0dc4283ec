use Rattle.std.proofs.Common.{length, map}
use Rattle.cl_hierarchy.specs.Trees.{superclass_in}
use Rattle.cl_hierarchy.proofs.Climbs.{Climbs}
use Rattle.cl_hierarchy.proofs.lineage.upward.Given as goal

abbrev pub invariant-loop-row : goal.invariant-loop-row
invariant-loop-row g l =
    Climbs (map (λ r. r.value) l.rows) (superclass_in l.under.value) (map (λ r. r.value) l.found.items) (map (λ r. r.value) l.rest) (superclass_in l.last.value)

abbrev pub decreases-loop-row : goal.decreases-loop-row
decreases-loop-row g l = length l.rest
