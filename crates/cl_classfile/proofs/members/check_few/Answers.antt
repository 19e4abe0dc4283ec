use Rattle.std.proofs.Common.{refl, sym, ◌∙◌, arith}
use Rattle.cl_classfile.specs.Checking.{keeps_member}
use Rattle.cl_classfile.proofs.MemberRows.{counted, goes_on, refuses, repeats, is_done}
use Rattle.cl_classfile.proofs.members.check_few.Goals as goal

pub loop-i-init : goal.loop-i-init
loop-i-init c = refl

pub returns-then-not-keeps_member : goal.returns-then-not-keeps_member
returns-then-not-keeps_member c =
    counted c.args.kind c.args.traits.now c.args.owner c.args.pool.now c.args.members.now (omega arith) ∙ refuses (keeps_member c.args.kind c.args.traits.now c.args.owner) c.args.pool.now c.args.members.now c.loop-i.i c.index-members-i.result c.loop-i-test.true c.index-members-i.is (sym c.keeps_member.ensures ∙ c.if-not-keeps_member.true) c.loop-i.invariant

pub returns-then-is_among : goal.returns-then-is_among
returns-then-is_among c =
    counted c.args.kind c.args.traits.now c.args.owner c.args.pool.now c.args.members.now (omega arith) ∙ repeats (keeps_member c.args.kind c.args.traits.now c.args.owner) c.args.pool.now c.args.members.now c.loop-i.i c.index-members-i.result c.loop-i-test.true c.index-members-i.is (sym c.keeps_member.ensures ∙ c.if-not-keeps_member.false) (sym c.is_among.ensures ∙ c.if-is_among.true) c.loop-i.invariant

pub loop-i-preserved : goal.loop-i-preserved
loop-i-preserved c =
    goes_on (keeps_member c.args.kind c.args.traits.now c.args.owner) c.args.pool.now c.args.members.now c.loop-i.i c.index-members-i.result c.loop-i-test.true c.index-members-i.is (sym c.keeps_member.ensures ∙ c.if-not-keeps_member.false) (sym c.is_among.ensures ∙ c.if-is_among.false) c.loop-i.invariant

pub returns : goal.returns
returns c = counted c.args.kind c.args.traits.now c.args.owner c.args.pool.now c.args.members.now (omega arith) ∙ is_done (keeps_member c.args.kind c.args.traits.now c.args.owner) c.args.pool.now c.args.members.now c.loop-i.i c.loop-i-test.false c.loop-i.invariant
