use Rattle.std.proofs.Common.{◌≡◌, length}
use Rattle.cl_lines.specs.Lines.{lines_of, numbered_from, stated_from}
use Rattle.cl_lines.proofs.lines.StatedIterator.next.Given as goal

abbrev pub invariant-loop-line : goal.invariant-loop-line
invariant-loop-line l = stated_from l.self-inside.lines.number l.self-inside.lines.text ≡ stated_from l.initial.self-inside.lines.number l.initial.self-inside.lines.text

abbrev pub decreases-loop-line : goal.decreases-loop-line
decreases-loop-line l = length (numbered_from l.self-inside.lines.number (lines_of l.self-inside.lines.text))
