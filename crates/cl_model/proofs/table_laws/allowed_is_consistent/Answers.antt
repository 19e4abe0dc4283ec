use Rattle.cl_model.proofs.Tables.{consistent_after}
use Rattle.cl_model.proofs.table_laws.allowed_is_consistent.Goals as goal

pub returns : goal.returns
returns c = consistent_after
