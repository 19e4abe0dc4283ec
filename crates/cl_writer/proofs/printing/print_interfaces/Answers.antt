use Rattle.std.proofs.Common.{get_or}
use Rattle.std.proofs.lemmas.List.{get_or_default}
use Rattle.cl_streams.proofs.Written.{lines_from, lines_to, on_err, passes_refused, passes_then}
use Rattle.cl_writer.specs.Listings.{implements_line}
use Rattle.cl_writer.proofs.printing.print_interfaces.Goals as goal

pub returns-in_err-print_interface-clause-part : goal.returns-in_err-print_interface-clause-part
returns-in_err-print_interface-clause-part g c =
    let f = implements_line c.args.pool.now in
    on_err c.from_residual.result _ (rw (← lines_from f c.args.interfaces.now c.loop-interface.interface-index (get_or c.args.interfaces.now c.loop-interface.interface-index 0) c.loop-interface-test.true
    (get_or_default c.args.interfaces.now c.loop-interface.interface-index _ _ c.loop-interface-test.true))
    (passes_refused _ _ _ _ _ _ _ _ c.loop-interface.invariant.lines c.in_err-print_interface.ensures.part))

pub loop-interface-preserved : goal.loop-interface-preserved
loop-interface-preserved g c =
    let f = implements_line c.args.pool.now in
    record {
      lines =
          rw (lines_to f c.args.interfaces.now c.loop-interface.interface-index (get_or c.args.interfaces.now c.loop-interface.interface-index 0) c.loop-interface-test.true
          (get_or_default c.args.interfaces.now c.loop-interface.interface-index _ _ c.loop-interface-test.true))
          (passes_then _ _ _ _ _ _ _ _ c.loop-interface.invariant.lines c.in_ok-print_interface.ensures.line);
      texts = c.in_ok-print_interface.ensures.texts;
    }
