use Rattle.std.proofs.Common.{◌≡◌, length}
use Rattle.cl_lines.specs.Lines.{words_of}
use Rattle.cl_lines.proofs.lines.WordsIterator.next.Given as goal

abbrev pub invariant-loop-self : goal.invariant-loop-self
invariant-loop-self l = words_of l.self-inside.left.now ≡ words_of l.initial.self-inside.left.now

abbrev pub decreases-loop-self : goal.decreases-loop-self
decreases-loop-self l = length l.self-inside.left.now
