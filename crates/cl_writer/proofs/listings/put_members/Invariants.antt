use Rattle.std.proofs.Common.{◌≡◌, ◌++◌, take, string_bytes}
use Rattle.std.specs.List.{flat_map}
use Rattle.cl_writer.specs.Listings.{member_line}
use Rattle.cl_writer.specs.Texts.{AreTexts}
use Rattle.cl_writer.proofs.listings.put_members.Given as goal

abbrev pub invariant-loop-member : goal.invariant-loop-member
invariant-loop-member l = record {
  put : string_bytes l.text ≡ string_bytes l.fn.text ++ flat_map (member_line l.word l.pool) (take l.member-index l.members);
  texts : AreTexts l.pool l.texts;
}
