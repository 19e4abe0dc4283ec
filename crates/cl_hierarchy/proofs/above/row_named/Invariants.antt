use Rattle.std.proofs.Common.{◌≤◌, length, map}
use Rattle.cl_model.specs.Classes.{class}
use Rattle.cl_hierarchy.proofs.Scans.{Scans}
use Rattle.cl_hierarchy.proofs.above.row_named.Given as goal

abbrev pub invariant-loop-row : goal.invariant-loop-row
invariant-loop-row g l = Scans (map (λ r. r.value) l.rows) (map (λ r. r.value) l.rest) (class l.name l.loader) × (length l.rest ≤ length l.rows)

abbrev pub decreases-loop-row : goal.decreases-loop-row
decreases-loop-row g l = length l.rest
