use Rattle.std.proofs.Common.{◌≡◌, ◌++◌, take, string_bytes}
use Rattle.std.specs.List.{flat_map}
use Rattle.cl_writer.specs.Listings.{implements_line}
use Rattle.cl_writer.specs.Texts.{AreTexts}
use Rattle.cl_writer.proofs.listings.put_interfaces.Given as goal

abbrev pub invariant-loop-interface : goal.invariant-loop-interface
invariant-loop-interface l = record {
  put : string_bytes l.text ≡ string_bytes l.fn.text ++ flat_map (implements_line l.pool) (take l.interface-index l.interfaces);
  texts : AreTexts l.pool l.texts;
}
