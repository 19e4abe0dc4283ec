use Rattle.std.proofs.Common.{map, string_bytes, take}
use Rattle.std.specs.List.{enumerate_from, flat_map}
use Rattle.cl_streams.specs.Writing.{Passes}
use Rattle.cl_report.specs.Report.{numbered_line}
use Rattle.cl_report.proofs.print.print_answers.Given as goal

abbrev pub invariant-loop-index : goal.invariant-loop-index
invariant-loop-index g l =
    Passes (g.W.Write.contents l.initial.out) (string_bytes l.initial.waiting) (g.W.Write.contents l.out) (string_bytes l.waiting)
    (flat_map (λ p. numbered_line (map string_bytes l.loaders) p.0 p.1) (take l.index (enumerate_from 0 l.answers)))
