use Rattle.std.proofs.Common.{length}
use Rattle.cl_descriptors.proofs.Loop.{Counted}
use Rattle.cl_descriptors.proofs.reading.tally_of.Given as goal

abbrev pub invariant-loop-piece : goal.invariant-loop-piece
invariant-loop-piece l = Counted l.bytes l.rest l.tally.count l.tally.units l.tally.shallow

abbrev pub decreases-loop-piece : goal.decreases-loop-piece
decreases-loop-piece l = length l.rest
