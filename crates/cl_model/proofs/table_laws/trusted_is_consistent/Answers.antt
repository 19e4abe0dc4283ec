use Rattle.cl_model.proofs.Tables.{trusted_is_consistent}
use Rattle.cl_model.proofs.table_laws.trusted_is_consistent.Goals as goal

pub returns : goal.returns
returns c = trusted_is_consistent
