use Rattle.std.proofs.Common.{length}
use Rattle.cl_bundle.proofs.Cutting.{IsInBody}
use Rattle.cl_bundle.proofs.sections.next_body.Given as goal

abbrev pub invariant-loop-line : goal.invariant-loop-line
invariant-loop-line l = IsInBody l.start l.initial.lines l.lines

abbrev pub decreases-loop-line : goal.decreases-loop-line
decreases-loop-line l = length l.lines.text
