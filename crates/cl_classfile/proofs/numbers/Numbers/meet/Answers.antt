use Rattle.std.proofs.Common.{ap, cond, List, ℕ, Some, ◌∙◌}
use Rattle.std.specs.BTreeMap.{get}
use Rattle.std.specs.Ordering.{is_eq}
use Rattle.cl_classfile.specs.declared.numbers.Numbers.{Numbers}
use Rattle.cl_classfile.specs.Numbers.{text_cmp}
use Rattle.cl_classfile.proofs.Numbering.{put_slot, put_other}
use Rattle.cl_classfile.proofs.numbers.Numbers.meet.Goals as goal

pub returns-then-take_slot-clause-met : goal.returns-then-take_slot-clause-met
returns-then-take_slot-clause-met c = λ pool is none.
    put_slot pool c.args.self.now c.take_slot.new.self c.args.text.now c.args.rank c.args.number c.requires is (c.take_slot.ensures.took c.if-take_slot.true) c.take_slot.ensures.others c.take_slot.ensures.mask

pub returns-clause-met : goal.returns-clause-met
returns-clause-met c = λ pool is none.
    let now = c.take_slot.new.self in
    let key = c.in_ok-try_clone.field-0 in
    let new : Numbers = record { slots = now.slots; mask = now.mask; others = c.insert.new.self; noted = now.noted } in
    put_other pool c.args.self.now new c.args.text.now key c.args.number c.in_ok-try_clone.ensures none (c.take_slot.ensures.left c.if-take_slot.false) c.take_slot.ensures.mask
    (λ (q : List ℕ). c.in_ok-insert.ensures.updates.0 q ∙ ap (λ m. cond (is_eq (text_cmp key q)) (Some c.args.number) (get text_cmp m q)) c.take_slot.ensures.others)
