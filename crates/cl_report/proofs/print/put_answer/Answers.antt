use Rattle.std.proofs.Common.{[], ◌∷◌, map, string_bytes}
use Rattle.std.specs.Fmt.{decimal}
use Rattle.cl_model.specs.Lines.{answer_text, ended_line, words}
use Rattle.cl_model.specs.Views.{answer_of}
use Rattle.cl_report.proofs.Lines.{answer_put}
use Rattle.cl_streams.proofs.Written.{on_err, on_err_by, on_ok_by, part_after, part_none, passes_after}
use Rattle.cl_report.proofs.print.put_answer.Goals as goal

pub returns-in_err-write-clause-part : goal.returns-in_err-write-clause-part
returns-in_err-write-clause-part g c = on_err c.from_residual.result _ (part_none _ _)

pub returns-in_err-push_str-clause-part : goal.returns-in_err-push_str-clause-part
returns-in_err-push_str-clause-part g c = on_err c.from_residual-in_err-push_str.result _ (part_none _ _)

pub returns-clause-line : goal.returns-clause-line
returns-clause-line g c =
    let said = answer_text (map string_bytes c.args.loaders.now) (answer_of c.args.answer.now) in
    let waits = string_bytes c.args.waiting.now in
    let line = ended_line (words (decimal c.args.number ∷ said ∷ [])) in
    let put = answer_put waits _ _ _ (decimal c.args.number) said c.in_ok-write.ensures.bytes c.in_ok-put_text.ensures c.in_ok-push_str.ensures.bytes in
    on_ok_by c.pass_page.result _ _ (passes_after _ _ waits _ _ line put) c.pass_page.ensures.passed

pub returns-clause-part : goal.returns-clause-part
returns-clause-part g c =
    let said = answer_text (map string_bytes c.args.loaders.now) (answer_of c.args.answer.now) in
    let waits = string_bytes c.args.waiting.now in
    let line = ended_line (words (decimal c.args.number ∷ said ∷ [])) in
    let put = answer_put waits _ _ _ (decimal c.args.number) said c.in_ok-write.ensures.bytes c.in_ok-put_text.ensures c.in_ok-push_str.ensures.bytes in
    on_err_by c.pass_page.result _ _ (part_after _ _ waits _ line put) c.pass_page.ensures.part
