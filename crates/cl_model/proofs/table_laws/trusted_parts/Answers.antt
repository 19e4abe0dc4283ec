use Rattle.cl_model.proofs.Tables.{trusted_parts}
use Rattle.cl_model.proofs.table_laws.trusted_parts.Goals as goal

pub returns : goal.returns
returns c = trusted_parts
