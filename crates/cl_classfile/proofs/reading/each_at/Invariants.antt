use Rattle.std.proofs.Common.{◌≡◌, ◌-◌}
use Rattle.cl_classfile.specs.Reading.{each_at}
use Rattle.cl_classfile.proofs.Loop.{with_front}
use Rattle.cl_classfile.proofs.reading.each_at.Given as goal

abbrev pub invariant-loop-i : goal.invariant-loop-i
invariant-loop-i g l = with_front l.all.items (each_at g.T.Listed.reader (l.count - l.i) l.rest) ≡ each_at g.T.Listed.reader l.count l.bytes
