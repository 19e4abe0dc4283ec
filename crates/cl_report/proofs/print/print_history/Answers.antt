use Rattle.std.proofs.Common.{map, string_bytes}
use Rattle.cl_report.specs.Report.{event_line}
use Rattle.cl_streams.proofs.Written.{lines_from, lines_to, on_err, passes_refused, passes_then}
use Rattle.cl_report.proofs.print.print_history.Goals as goal

pub returns-in_err-put_event-clause-part : goal.returns-in_err-put_event-clause-part
returns-in_err-put_event-clause-part g c =
    let f = event_line (map string_bytes c.args.loaders.now) in
    on_err c.from_residual.result _ (rw (← lines_from f c.args.events.now c.loop-event.event-index c.event-item.result c.loop-event-test.true c.event-item.is)
    (passes_refused _ _ _ _ _ _ _ _ c.loop-event.invariant c.in_err-put_event.ensures.part))

pub loop-event-preserved : goal.loop-event-preserved
loop-event-preserved g c =
    let f = event_line (map string_bytes c.args.loaders.now) in
    rw (lines_to f c.args.events.now c.loop-event.event-index c.event-item.result c.loop-event-test.true c.event-item.is)
    (passes_then _ _ _ _ _ _ _ _ c.loop-event.invariant c.in_ok-put_event.ensures.line)
