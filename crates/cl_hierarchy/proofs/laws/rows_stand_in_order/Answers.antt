use Rattle.cl_hierarchy.proofs.RowTables.{supers_before}
use Rattle.cl_hierarchy.proofs.laws.rows_stand_in_order.Goals as goal

pub returns : goal.returns
returns c = supers_before
