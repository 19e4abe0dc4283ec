use Rattle.std.proofs.Common.{ℕ, ◌-◌, ◌≤◌, List, length, take, Option}
use Rattle.std.specs.Io.KnownBytes.{Appends}
use Rattle.cl_streams.proofs.output.write_out.Given as goal

-- so many bytes are written
pub record IsSent (sent : ℕ) (bytes : List ℕ) (old new : Option (List ℕ)) : Type 0 where
  pub within : sent ≤ length bytes
  pub grown : Appends old new (take sent bytes)

abbrev pub invariant-loop-sent : goal.invariant-loop-sent
invariant-loop-sent g l = IsSent l.sent l.bytes (g.W.Write.contents l.initial.out) (g.W.Write.contents l.out)

abbrev pub decreases-loop-sent : goal.decreases-loop-sent
decreases-loop-sent g l = length l.bytes - l.sent
