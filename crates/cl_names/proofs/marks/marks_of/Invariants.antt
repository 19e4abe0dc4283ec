use Rattle.std.proofs.Common.{◌≡◌, take}
use Rattle.std.specs.List.{list_all}
use Rattle.cl_names.specs.Text.{is_single}
use Rattle.cl_names.specs.Bits.{lacks}
use Rattle.cl_names.specs.Kind.{is_allowed, has_no_angle}
use Rattle.cl_names.proofs.Walks.{AreParts}
use Rattle.cl_names.proofs.marks.marks_of.Given as goal

abbrev pub invariant-loop-byte : goal.invariant-loop-byte
invariant-loop-byte l = record {
  single : lacks 0 l.seen ≡ list_all is_single (take l.byte-index l.bytes);
  plain : lacks 1 l.seen ≡ has_no_angle (take l.byte-index l.bytes);
  allowed : lacks 2 l.seen ≡ list_all is_allowed (take l.byte-index l.bytes);
  class : AreParts l.seen l.twice l.last l.bytes l.byte-index;
}
