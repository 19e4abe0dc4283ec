use Rattle.std.proofs.Common.{◌≡◌, map, take}
use Rattle.cl_writer.specs.Described.{member_of}
use Rattle.cl_writer.proofs.making.members.Given as goal

abbrev pub invariant-loop-line : goal.invariant-loop-line
invariant-loop-line l = l.members.items ≡ map (member_of l.items) (take l.line-index l.lines)
