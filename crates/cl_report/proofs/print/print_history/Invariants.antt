use Rattle.std.proofs.Common.{map, string_bytes, take}
use Rattle.cl_streams.specs.Writing.{Passes}
use Rattle.cl_report.specs.Report.{history_lines}
use Rattle.cl_report.proofs.print.print_history.Given as goal

abbrev pub invariant-loop-event : goal.invariant-loop-event
invariant-loop-event g l =
    Passes (g.W.Write.contents l.initial.out) (string_bytes l.initial.waiting) (g.W.Write.contents l.out) (string_bytes l.waiting)
    (history_lines (map string_bytes l.loaders) (take l.event-index l.events))
