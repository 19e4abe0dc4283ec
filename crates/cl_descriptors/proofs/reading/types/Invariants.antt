use Rattle.std.proofs.Common.{length}
use Rattle.cl_descriptors.proofs.Loop.{Passed}
use Rattle.cl_descriptors.proofs.reading.types.Given as goal

abbrev pub invariant-loop-piece : goal.invariant-loop-piece
invariant-loop-piece l = Passed l.bytes l.rest l.types.items

abbrev pub decreases-loop-piece : goal.decreases-loop-piece
decreases-loop-piece l = length l.rest
