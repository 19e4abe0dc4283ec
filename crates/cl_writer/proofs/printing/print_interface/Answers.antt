use Rattle.std.proofs.Common.{string_bytes}
use Rattle.cl_writer.specs.Listings.{implements_line}
use Rattle.cl_streams.proofs.Written.{on_err, on_err_by, on_ok_by, part_after, part_none, passes_after}
use Rattle.cl_writer.proofs.printing.print_interface.Goals as goal

pub returns-in_err-put_interface-clause-part : goal.returns-in_err-put_interface-clause-part
returns-in_err-put_interface-clause-part g c = on_err c.from_residual.result _ (part_none _ _)

pub returns-clause-line : goal.returns-clause-line
returns-clause-line g c = on_ok_by c.pass_page.result _ _ (passes_after _ _ (string_bytes c.args.waiting.now) _ _ (implements_line c.args.pool.now c.args.interface) c.in_ok-put_interface.ensures.put) c.pass_page.ensures.passed

pub returns-clause-part : goal.returns-clause-part
returns-clause-part g c = on_err_by c.pass_page.result _ _ (part_after _ _ (string_bytes c.args.waiting.now) _ (implements_line c.args.pool.now c.args.interface) c.in_ok-put_interface.ensures.put) c.pass_page.ensures.part
