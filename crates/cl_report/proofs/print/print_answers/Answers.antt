use Rattle.std.proofs.Common.{ℕ, ◌<◌, ◌≤◌, length, map, string_bytes, arith}
use Rattle.std.specs.List.{enumerate_from}
use Rattle.std.proofs.lemmas.List.{take_all}
use Rattle.std.proofs.lemmas.List.FromFn.{length-enumerate_from}
use Rattle.cl_model.specs.declared.answer.Answer.{Answer}
use Rattle.cl_report.specs.Report.{numbered_line}
use Rattle.cl_streams.proofs.Written.{lines_from, lines_to, numbered_at, on_err, passes_refused, passes_then}
use Rattle.cl_report.proofs.print.print_answers.Goals as goal

pub returns-in_err-put_answer-clause-part : goal.returns-in_err-put_answer-clause-part
returns-in_err-put_answer-clause-part g c =
    let f = λ (p : ℕ × Answer). numbered_line (map string_bytes c.args.loaders.now) p.0 p.1 in
    let i = c.loop-index.index in
    let x = c.index-answers-index.result in
    let within : i < length (enumerate_from 0 c.args.answers.now) = rw (length-enumerate_from 0 c.args.answers.now) c.loop-index-test.true in
    on_err c.from_residual.result _ (rw (← lines_from f (enumerate_from 0 c.args.answers.now) i (i, x) within (numbered_at 0 c.args.answers.now i i x c.loop-index-test.true c.index-answers-index.is (omega arith)))
    (passes_refused _ _ _ _ _ _ _ _ c.loop-index.invariant c.in_err-put_answer.ensures.part))

pub loop-index-preserved : goal.loop-index-preserved
loop-index-preserved g c =
    let f = λ (p : ℕ × Answer). numbered_line (map string_bytes c.args.loaders.now) p.0 p.1 in
    let i = c.loop-index.index in
    let x = c.index-answers-index.result in
    let within : i < length (enumerate_from 0 c.args.answers.now) = rw (length-enumerate_from 0 c.args.answers.now) c.loop-index-test.true in
    rw (lines_to f (enumerate_from 0 c.args.answers.now) i (i, x) within (numbered_at 0 c.args.answers.now i i x c.loop-index-test.true c.index-answers-index.is (omega arith)))
    (passes_then _ _ _ _ _ _ _ _ c.loop-index.invariant c.in_ok-put_answer.ensures.line)

pub returns-clause-lines : goal.returns-clause-lines
returns-clause-lines g c =
    let past : length (enumerate_from 0 c.args.answers.now) ≤ c.loop-index.index = rw (length-enumerate_from 0 c.args.answers.now) c.loop-index-test.false in
    rw (take_all c.loop-index.index (enumerate_from 0 c.args.answers.now) past) at c.loop-index.invariant
