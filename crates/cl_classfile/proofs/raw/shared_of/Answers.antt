use Rattle.std.proofs.Common.{◌≡◌, List, ℕ, ap, ◌++◌, ◌∙◌, arith}
use Rattle.cl_classfile.proofs.Sharing.{one_behind, all_behind}
use Rattle.cl_classfile.proofs.raw.shared_of.Goals as goal

pub loop-entry-preserved : goal.loop-entry-preserved
loop-entry-preserved c =
    let grown : c.extend_from_slice.new.self.items ≡ c.loop-entry.texts.items ++ c.shared_in.result.now = c.in_ok-extend_from_slice.ensures.items in
    one_behind c.loop-entry.texts.items c.extend_from_slice.new.self.items c.args.pool.now c.loop-entry.entry-index _ c.loop-entry-test.true
    (grown ∙ ap (λ (t : List ℕ). c.loop-entry.texts.items ++ t) c.shared_in.ensures) c.loop-entry.invariant

pub returns : goal.returns
returns c = all_behind c.loop-entry.texts.items c.args.pool.now c.loop-entry.entry-index (omega arith) c.loop-entry.invariant
