use Rattle.cl_streams.proofs.Written.{lines_from, lines_to, on_err, passes_refused, passes_then}
use Rattle.cl_writer.specs.Listings.{member_line}
use Rattle.cl_writer.proofs.printing.print_members.Goals as goal

pub returns-in_err-print_member-clause-part : goal.returns-in_err-print_member-clause-part
returns-in_err-print_member-clause-part g c =
    let f = member_line c.args.word.now c.args.pool.now in
    on_err c.from_residual.result _ (rw (← lines_from f c.args.members.now c.loop-member.member-index c.member-item.result c.loop-member-test.true c.member-item.is)
    (passes_refused _ _ _ _ _ _ _ _ c.loop-member.invariant.lines c.in_err-print_member.ensures.part))

pub loop-member-preserved : goal.loop-member-preserved
loop-member-preserved g c =
    let f = member_line c.args.word.now c.args.pool.now in
    record {
      lines =
          rw (lines_to f c.args.members.now c.loop-member.member-index c.member-item.result c.loop-member-test.true c.member-item.is)
          (passes_then _ _ _ _ _ _ _ _ c.loop-member.invariant.lines c.in_ok-print_member.ensures.line);
      texts = c.in_ok-print_member.ensures.texts;
    }
