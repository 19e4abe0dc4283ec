use Rattle.std.proofs.Common.{string_bytes, take}
use Rattle.std.specs.List.{flat_map}
use Rattle.cl_streams.specs.Writing.{Passes}
use Rattle.cl_writer.specs.Listings.{member_line}
use Rattle.cl_writer.specs.Texts.{AreTexts}
use Rattle.cl_writer.proofs.printing.print_members.Given as goal

abbrev pub invariant-loop-member : goal.invariant-loop-member
invariant-loop-member g l = record {
  lines :
      Passes (g.W.Write.contents l.initial.out) (string_bytes l.initial.waiting) (g.W.Write.contents l.out) (string_bytes l.waiting)
      (flat_map (member_line l.word l.pool) (take l.member-index l.members));
  texts : AreTexts l.pool l.texts;
}
