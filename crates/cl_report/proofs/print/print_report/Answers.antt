use Rattle.std.proofs.Common.{length}
use Rattle.cl_model.specs.Texts.{EventNames}
use Rattle.cl_streams.proofs.Written.{all_shown, on_err, on_err_by, on_ok_by, part_more, passes_all, passes_then, refused_last, refused_next}
use Rattle.cl_report.proofs.print.print_report.Goals as goal

pub print_history-requires : goal.print_history-requires
print_history-requires g c =
    rw c.shown_events-events.ensures (all_shown (EventNames (length c.args.loaders.now)) c.args.answers c.args.report.now.history c.requires.events)

pub returns-in_err-print_history-clause-part : goal.returns-in_err-print_history-clause-part
returns-in_err-print_history-clause-part g c =
    on_err c.from_residual.result _
    (part_more _ _ _ _ (rw (c.new-waiting.ensures.bytes, c.shown_events-events.ensures) at c.in_err-print_history.ensures.part))

pub returns-in_err-print_answers-clause-part : goal.returns-in_err-print_answers-clause-part
returns-in_err-print_answers-clause-part g c =
    let history = rw (c.new-waiting.ensures.bytes, c.shown_events-events.ensures) at c.in_ok-print_history.ensures.lines in
    on_err c.from_residual-in_err-print_answers.result _
    (refused_next _ _ _ _ _ _ history (rw c.as_slice.ensures at c.in_err-print_answers.ensures.part))

pub returns-clause-lines : goal.returns-clause-lines
returns-clause-lines g c =
    let history = rw (c.new-waiting.ensures.bytes, c.shown_events-events.ensures) at c.in_ok-print_history.ensures.lines in
    let answers = rw c.as_slice.ensures at c.in_ok-print_answers.ensures.lines in
    on_ok_by c.write_out.result _ _ (passes_all _ _ _ _ _ (passes_then _ _ _ _ _ _ _ _ history answers)) (rw c.as_bytes.ensures.value at c.write_out.ensures.all)

pub returns-clause-part : goal.returns-clause-part
returns-clause-part g c =
    let history = rw (c.new-waiting.ensures.bytes, c.shown_events-events.ensures) at c.in_ok-print_history.ensures.lines in
    let answers = rw c.as_slice.ensures at c.in_ok-print_answers.ensures.lines in
    on_err_by c.write_out.result _ _ (refused_last _ _ _ _ _ (passes_then _ _ _ _ _ _ _ _ history answers)) (rw c.as_bytes.ensures.value at c.write_out.ensures.part)
