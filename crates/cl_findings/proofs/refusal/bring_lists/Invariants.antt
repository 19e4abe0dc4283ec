use Rattle.std.proofs.Common.{◌<◌, ℕ, map}
use Rattle.std.specs.Prelude.{IfSome, slice_get}
use Rattle.cl_hierarchy.specs.Imposed.{IsListed}
use Rattle.cl_findings.proofs.refusal.bring_lists.Given as goal

abbrev pub invariant-loop-at : goal.invariant-loop-at
invariant-loop-at g l = (k : ℕ) → k < l.at → IfSome (slice_get (map (λ e. e.value) l.lists) k) (IsListed g.T.Told.told)
