use Rattle.cl_hierarchy.proofs.RowTables.{rows_grow}
use Rattle.cl_hierarchy.proofs.laws.rows_grow.Goals as goal

pub returns : goal.returns
returns c = rows_grow
