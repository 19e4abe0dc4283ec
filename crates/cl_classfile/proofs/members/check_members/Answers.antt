use Rattle.std.proofs.Common.{List, length, take, refl, sym, subst, ◌∙◌, arith}
use Rattle.cl_classfile.specs.Structure.{MemberInfo}
use Rattle.cl_classfile.specs.Checking.{keeps_member}
use Rattle.cl_classfile.specs.Numbers.{number_of}
use Rattle.std.proofs.lemmas.Option.{slice_get_read}
use Rattle.cl_classfile.specs.Indexes.{has_place}
use Rattle.cl_classfile.specs.Seen.{HasPairs}
use Rattle.cl_classfile.proofs.Indexes.{starts as none_stand, is_done as is_done_standing}
use Rattle.cl_classfile.proofs.MemberRows.{counted, front, goes_on, refuses, repeats, is_done}
use Rattle.cl_classfile.proofs.Keys.{starts, old, fresh}
use Rattle.cl_classfile.proofs.Numbering.{member_noted}
use Rattle.cl_classfile.proofs.members.check_members.Goals as goal

pub loop-i-init : goal.loop-i-init
loop-i-init c = (λ pool a. (refl, starts pool (number_of pool c.args.numbers.now) c.new-places.result c.new-places.ensures), none_stand c.args.numbers.now c.new-places.result c.args.members.now c.new-places.ensures)

pub returns-then-not-keeps_member-clause-checked : goal.returns-then-not-keeps_member-clause-checked
returns-then-not-keeps_member-clause-checked c = λ pool a.
    counted c.args.kind c.args.traits.now c.args.owner pool c.args.members.now (omega arith) ∙ refuses (keeps_member c.args.kind c.args.traits.now c.args.owner) pool c.args.members.now c.loop-i.i c.index-members-i.result c.loop-i-test.true c.index-members-i.is (sym c.keeps_member.ensures ∙ c.if-not-keeps_member.true) (c.loop-i.invariant.0 pool a).0

pub returns-then-not-branch-clause-checked : goal.returns-then-not-branch-clause-checked
returns-then-not-branch-clause-checked c = λ pool a.
    let so_far = c.loop-i.invariant.0 pool a in
    let k = c.in_ok-is_new.ensures.seen pool (take c.loop-i.i c.args.members.now) a.numbers (member_noted pool c.args.numbers.now c.args.members.now c.loop-i.i c.index-members-i.result c.loop-i-test.true c.index-members-i.is a.each) so_far.1 in
    counted c.args.kind c.args.traits.now c.args.owner pool c.args.members.now (omega arith) ∙ repeats (keeps_member c.args.kind c.args.traits.now c.args.owner) pool c.args.members.now c.loop-i.i c.index-members-i.result c.loop-i-test.true c.index-members-i.is (sym c.keeps_member.ensures ∙ c.if-not-keeps_member.false) (old c.in_ok-is_new.field-0 _ k.0 c.if-not-branch.true) so_far.0

pub loop-i-preserved : goal.loop-i-preserved
loop-i-preserved c = (
  λ pool a.
      let so_far = c.loop-i.invariant.0 pool a in
      let k = c.in_ok-is_new.ensures.seen pool (take c.loop-i.i c.args.members.now) a.numbers (member_noted pool c.args.numbers.now c.args.members.now c.loop-i.i c.index-members-i.result c.loop-i-test.true c.index-members-i.is a.each) so_far.1 in (
        goes_on (keeps_member c.args.kind c.args.traits.now c.args.owner) pool c.args.members.now c.loop-i.i c.index-members-i.result c.loop-i-test.true c.index-members-i.is (sym c.keeps_member.ensures ∙ c.if-not-keeps_member.false) (fresh c.in_ok-is_new.field-0 _ k.0 c.if-not-branch.false) so_far.0,
        subst (λ (ms : List MemberInfo). HasPairs pool (number_of pool c.args.numbers.now) (has_place c.is_new.new.places) ms) (sym (front c.args.members.now c.loop-i.i c.index-members-i.result c.loop-i-test.true c.index-members-i.is)) k.1,
      ),
  c.in_ok-is_new.ensures.placed c.args.members.now (slice_get_read c.args.members.now (length c.args.members.now) c.loop-i.i c.index-members-i.result refl c.loop-i-test.true c.index-members-i.is) c.loop-i.invariant.1,
)

pub returns-clause-checked : goal.returns-clause-checked
returns-clause-checked c = λ pool a.
    counted c.args.kind c.args.traits.now c.args.owner pool c.args.members.now (omega arith) ∙ is_done (keeps_member c.args.kind c.args.traits.now c.args.owner) pool c.args.members.now c.loop-i.i c.loop-i-test.false (c.loop-i.invariant.0 pool a).0

pub returns-clause-placed : goal.returns-clause-placed
returns-clause-placed c = is_done_standing c.args.numbers.now c.loop-i.places c.args.members.now c.loop-i.i c.loop-i-test.false c.loop-i.invariant.1
