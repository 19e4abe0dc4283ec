use Rattle.std.proofs.Common.{string_bytes}
use Rattle.cl_writer.specs.Listings.{implements_line}
use Rattle.cl_writer.proofs.Printed.{one_more}
use Rattle.cl_writer.proofs.listings.put_interfaces.Goals as goal

pub loop-interface-preserved : goal.loop-interface-preserved
loop-interface-preserved c = record {
  put =
      one_more (implements_line c.args.pool.now) c.args.interfaces.now c.loop-interface.interface-index (string_bytes c.args.text.now) (string_bytes c.loop-interface.text) (string_bytes c.put_interface.new.text)
      c.loop-interface-test.true c.loop-interface.invariant.put c.in_ok-put_interface.ensures.put;
  texts = c.in_ok-put_interface.ensures.texts;
}
