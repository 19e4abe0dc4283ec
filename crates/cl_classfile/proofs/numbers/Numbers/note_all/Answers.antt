use Rattle.std.proofs.Common.{ℕ, subst}
use Rattle.cl_classfile.specs.Numbers.{Notes}
use Rattle.cl_classfile.proofs.Numbering.{one_more}
use Rattle.cl_classfile.proofs.numbers.Numbers.note_all.Goals as goal

pub loop-member-preserved : goal.loop-member-preserved
loop-member-preserved c =
    one_more c.args.pool.now c.args.self.now c.loop-member.self c.note.new.self c.note-in-loop-member.new.self c.args.members.now c.loop-member.member-index c.member-item.result c.loop-member-test.true c.member-item.is c.loop-member.invariant
    (subst (λ (i : ℕ). Notes c.args.pool.now c.loop-member.self c.note.new.self i) c.name_index.ensures c.in_ok-note.ensures)
    (subst (λ (i : ℕ). Notes c.args.pool.now c.note.new.self c.note-in-loop-member.new.self i) c.descriptor_index.ensures c.in_ok-note-2.ensures)
