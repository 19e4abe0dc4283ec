use Rattle.cl_hierarchy.proofs.RowTables.{made}
use Rattle.cl_hierarchy.proofs.laws.rows_make_lineages.Goals as goal

pub returns : goal.returns
returns c = made
