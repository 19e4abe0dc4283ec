use Rattle.std.proofs.Common.{[], map, string_bytes}
use Rattle.cl_report.specs.Report.{event_line}
use Rattle.cl_streams.proofs.Written.{on_err_by, on_ok_by, part_after, passes_after}
use Rattle.cl_report.proofs.print.put_event.Goals as goal

pub returns-clause-line : goal.returns-clause-line
returns-clause-line g c =
    let line = event_line (map string_bytes c.args.loaders.now) c.args.event.now in
    on_ok_by c.pass_page.result _ _ (passes_after _ _ (string_bytes c.args.waiting.now) _ _ line (c.in_ok-put_line.ensures [])) c.pass_page.ensures.passed

pub returns-clause-part : goal.returns-clause-part
returns-clause-part g c =
    let line = event_line (map string_bytes c.args.loaders.now) c.args.event.now in
    on_err_by c.pass_page.result _ _ (part_after _ _ (string_bytes c.args.waiting.now) _ line (c.in_ok-put_line.ensures [])) c.pass_page.ensures.part
