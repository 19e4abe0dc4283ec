use Rattle.std.proofs.Common.{◌≡◌, length, map}
use Rattle.cl_model.specs.Lineages.{is_subclass}
use Rattle.cl_hierarchy.specs.Trees.{kin_under, kins}
use Rattle.cl_hierarchy.proofs.lineage.is_above.Given as goal

abbrev pub invariant-loop-row : goal.invariant-loop-row
invariant-loop-row g l =
    is_subclass (kin_under (kins (map (λ r. r.value) l.rest)) l.last.value) l.of ≡ is_subclass (kin_under (kins (map (λ r. r.value) l.rows)) l.under.value) l.of

abbrev pub decreases-loop-row : goal.decreases-loop-row
decreases-loop-row g l = length l.rest
