use Rattle.std.proofs.Common.{length, map}
use Rattle.cl_hierarchy.proofs.RowIndex.{Indexes}
use Rattle.cl_hierarchy.proofs.row_index.RowIndex.of.Given as goal

abbrev pub invariant-loop-row : goal.invariant-loop-row
invariant-loop-row g l = Indexes (λ r. r.value) l.table.entries (map (λ r. r.value) l.above) l.own.value (map (λ r. r.value) l.rest)

abbrev pub decreases-loop-row : goal.decreases-loop-row
decreases-loop-row g l = length l.rest
