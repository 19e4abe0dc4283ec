use Rattle.std.proofs.Common.{take}
use Rattle.cl_classfile.specs.Numbers.{NotesAll}
use Rattle.cl_classfile.proofs.numbers.Numbers.note_all.Given as goal

abbrev pub invariant-loop-member : goal.invariant-loop-member
invariant-loop-member l = NotesAll l.pool l.initial.self l.self (take l.member-index l.members)
