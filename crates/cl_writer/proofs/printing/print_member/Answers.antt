use Rattle.std.proofs.Common.{string_bytes}
use Rattle.cl_writer.specs.Listings.{member_line}
use Rattle.cl_streams.proofs.Written.{on_err, on_err_by, on_ok_by, part_after, part_none, passes_after}
use Rattle.cl_writer.proofs.printing.print_member.Goals as goal

pub returns-in_err-put_member-clause-part : goal.returns-in_err-put_member-clause-part
returns-in_err-put_member-clause-part g c = on_err c.from_residual.result _ (part_none _ _)

pub returns-clause-line : goal.returns-clause-line
returns-clause-line g c = on_ok_by c.pass_page.result _ _ (passes_after _ _ (string_bytes c.args.waiting.now) _ _ (member_line c.args.word.now c.args.pool.now c.args.member.now) c.in_ok-put_member.ensures.put) c.pass_page.ensures.passed

pub returns-clause-part : goal.returns-clause-part
returns-clause-part g c = on_err_by c.pass_page.result _ _ (part_after _ _ (string_bytes c.args.waiting.now) _ (member_line c.args.word.now c.args.pool.now c.args.member.now) c.in_ok-put_member.ensures.put) c.pass_page.ensures.part
