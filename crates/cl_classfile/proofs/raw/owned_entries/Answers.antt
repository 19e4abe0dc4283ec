use Rattle.std.proofs.Common.{ℕ, List, subst, sym, ◌+◌, length}
use Rattle.std.specs.Arc.{arc_slice_items}
use Rattle.cl_classfile.specs.Raw.{HoldsText}
use Rattle.cl_classfile.proofs.Entries.{each_holds}
use Rattle.cl_classfile.proofs.Sharing.{AreFrom, first_there, goes_on, one_made}
use Rattle.cl_classfile.proofs.raw.owned_entries.Goals as goal

pub owned_entry-requires-clause-text : goal.owned_entry-requires-clause-text
owned_entry-requires-clause-text c = each_holds HoldsText c.args.pool.now c.loop-i.i _ c.loop-i-test.true c.requires

pub owned_entry-requires-clause-place : goal.owned_entry-requires-clause-place
owned_entry-requires-clause-place c = first_there c.loop-i.start (arc_slice_items c.in_ok-shared.shared) c.args.pool.now c.loop-i.i _ c.loop-i-test.true c.loop-i.invariant.left

pub loop-i-preserved : goal.loop-i-preserved
loop-i-preserved c = record {
  made = one_made c.loop-i.entries.items c.push.new.self.items c.args.pool.now c.loop-i.i _ c.in_ok-owned_entry.field-0 c.loop-i-test.true c.in_ok-push.ensures.items c.in_ok-owned_entry.ensures c.loop-i.invariant.made;
  left =
      subst (λ (text : List ℕ). AreFrom (c.loop-i.start + length text) (arc_slice_items c.in_ok-shared.shared) c.args.pool.now (c.loop-i.i + 1)) (sym c.shared_in.ensures)
      (goes_on c.loop-i.start (arc_slice_items c.in_ok-shared.shared) c.args.pool.now c.loop-i.i _ c.loop-i-test.true c.loop-i.invariant.left);
}
