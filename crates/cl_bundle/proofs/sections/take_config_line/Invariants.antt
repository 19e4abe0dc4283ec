use Rattle.std.proofs.Common.{◌≡◌, length}
use Rattle.cl_bundle.specs.Cuts.{cuts_of}
use Rattle.cl_bundle.proofs.sections.take_config_line.Given as goal

abbrev pub invariant-loop-line : goal.invariant-loop-line
invariant-loop-line l = cuts_of l.initial.lines ≡ cuts_of l.lines

abbrev pub decreases-loop-line : goal.decreases-loop-line
decreases-loop-line l = length l.lines.text
