use Rattle.std.proofs.Common.{◌<◌, ℕ}
use Rattle.std.specs.Prelude.{IfSome, slice_get}
use Rattle.cl_model.specs.States.{Keeps}
use Rattle.cl_constraints.specs.Books.{Wherever}
use Rattle.cl_hierarchy.specs.Frames.{frame_of}
use Rattle.cl_findings.proofs.stands.frame_stands.Given as goal

abbrev pub invariant-loop-at : goal.invariant-loop-at
invariant-loop-at g l = (k : ℕ) → k < l.at → Wherever (g.X.Tables.stands_for l.tables) (λ s. IfSome (slice_get (frame_of l.frame).accepted k) (Keeps s l.frame.draft.class.loader))
