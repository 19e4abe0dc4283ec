use Rattle.std.proofs.Common.{◌<◌, ℕ}
use Rattle.std.specs.Prelude.{IfSome, slice_get}
use Rattle.cl_model.specs.States.{Met}
use Rattle.cl_constraints.specs.Books.{Wherever}
use Rattle.cl_hierarchy.specs.Imposed.{needs_of}
use Rattle.cl_findings.proofs.stands.equalities_stand.Given as goal

abbrev pub invariant-loop-at : goal.invariant-loop-at
invariant-loop-at g l = (k : ℕ) → k < l.at → Wherever (g.X.Tables.stands_for l.tables) (λ s. IfSome (slice_get (needs_of l.needs) k) (Met s))
