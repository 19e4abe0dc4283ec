use Rattle.std.proofs.Common.{◌<◌, ℕ, map}
use Rattle.std.specs.Prelude.{IfSome, slice_get}
use Rattle.cl_model.specs.States.{AllMet}
use Rattle.cl_constraints.specs.Books.{Wherever}
use Rattle.cl_hierarchy.specs.Imposed.{needs_of}
use Rattle.cl_findings.proofs.stands.lists_stand.Given as goal

abbrev pub invariant-loop-at : goal.invariant-loop-at
invariant-loop-at g l = (k : ℕ) → k < l.at → Wherever (g.X.Tables.stands_for l.tables) (λ s. IfSome (slice_get (map (λ e. e.value) l.lists) k) (λ e. AllMet s (needs_of e.needs)))
