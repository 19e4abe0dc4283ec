use Rattle.std.proofs.Common.{◌≡◌, ◌-◌, length, drop, arith}
use Rattle.std.proofs.lemmas.List.{take_rest, length-drop}
use Rattle.cl_streams.proofs.Written.{on_err, sent_more, sent_part}
use Rattle.cl_streams.proofs.output.write_out.Goals as goal

pub returns-in_err-sent-clause-part : goal.returns-in_err-sent-clause-part
returns-in_err-sent-clause-part g c =
    on_err c.from_residual.result _ (sent_part _ _ _ c.args.bytes.now c.loop-sent.sent c.loop-sent.invariant.grown c.in_err-sent.ensures.refused)

pub loop-sent-preserved : goal.loop-sent-preserved
loop-sent-preserved g c =
    let n = c.in_ok-sent.field-0 in
    let all = take_rest c.args.bytes.now c.loop-sent.sent in
    let len : length (drop c.loop-sent.sent c.args.bytes.now) ≡ length c.args.bytes.now - c.loop-sent.sent = length-drop c.loop-sent.sent c.args.bytes.now in
    let some = rw all at c.in_ok-sent.ensures.some in
    record {
      within = omega arith;
      grown = sent_more _ _ _ c.args.bytes.now c.loop-sent.sent n c.loop-sent.invariant.grown (rw all at c.in_ok-sent.ensures.taken);
    }
