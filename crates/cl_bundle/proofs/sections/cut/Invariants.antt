use Rattle.std.proofs.Common.{length, map}
use Rattle.cl_bundle.specs.Cuts.{cut_part}
use Rattle.cl_bundle.proofs.Cutting.{IsCutSoFar}
use Rattle.cl_bundle.proofs.sections.cut.Given as goal

abbrev pub invariant-loop-end : goal.invariant-loop-end
invariant-loop-end l = IsCutSoFar l.text l.config (map cut_part l.classes.items) l.end l.lines

abbrev pub decreases-loop-end : goal.decreases-loop-end
decreases-loop-end l = length l.lines.text
