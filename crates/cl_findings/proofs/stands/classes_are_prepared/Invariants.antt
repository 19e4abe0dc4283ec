use Rattle.std.proofs.Common.{◌<◌, ℕ}
use Rattle.std.specs.Prelude.{Contains, IfSome, slice_get}
use Rattle.cl_constraints.specs.Books.{Wherever}
use Rattle.cl_hierarchy.specs.Lineages.{rows_in}
use Rattle.cl_findings.proofs.stands.classes_are_prepared.Given as goal

abbrev pub invariant-loop-at : goal.invariant-loop-at
invariant-loop-at g l = (k : ℕ) → k < l.at → Wherever (g.X.Tables.stands_for l.tables) (λ s. IfSome (slice_get (rows_in l.lineage) k) (λ r. Contains s.prepared r.class))
