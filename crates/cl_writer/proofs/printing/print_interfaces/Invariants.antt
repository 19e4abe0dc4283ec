use Rattle.std.proofs.Common.{string_bytes, take}
use Rattle.std.specs.List.{flat_map}
use Rattle.cl_streams.specs.Writing.{Passes}
use Rattle.cl_writer.specs.Listings.{implements_line}
use Rattle.cl_writer.specs.Texts.{AreTexts}
use Rattle.cl_writer.proofs.printing.print_interfaces.Given as goal

abbrev pub invariant-loop-interface : goal.invariant-loop-interface
invariant-loop-interface g l = record {
  lines :
      Passes (g.W.Write.contents l.initial.out) (string_bytes l.initial.waiting) (g.W.Write.contents l.out) (string_bytes l.waiting)
      (flat_map (implements_line l.pool) (take l.interface-index l.interfaces));
  texts : AreTexts l.pool l.texts;
}
