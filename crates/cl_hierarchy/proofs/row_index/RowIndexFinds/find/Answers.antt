use Rattle.cl_hierarchy.proofs.RowIndex.{found_in}
use Rattle.cl_hierarchy.proofs.row_index.RowIndexFinds.find.Goals as goal

pub returns : goal.returns
returns g c = found_in (λ r. r.value) c.self.inside.table.entries _ c.args.self.now c.in_ok-try_clone.field-0 c.args.name.now c.args.loader c.get.result c.self.invariant c.self.view_is c.in_ok-try_clone.ensures c.get.ensures.value
