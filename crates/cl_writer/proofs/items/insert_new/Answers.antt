use Rattle.std.proofs.Common.{◌≡◌, Bool, cond, Some, subst}
use Rattle.indexmap.specs.IndexMap.{get}
use Rattle.cl_writer.specs.declared.item.Item.{Item}
use Rattle.cl_writer.proofs.Equal.{same_test}
use Rattle.cl_writer.proofs.items.insert_new.Goals as goal

pub returns : goal.returns
returns c = λ q.
    let P : (Item → Item → Bool) → Type 0 = λ E. get E c.insert.new.self q ≡ cond (E c.args.item q) (Some c.args.index) (get E c.args.indices.now q) in
    subst P same_test (c.in_ok-insert.ensures.updates.0 q)
