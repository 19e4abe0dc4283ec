use Rattle.cl_model.proofs.Tables.{defined_once}
use Rattle.cl_model.proofs.table_laws.defined_once.Goals as goal

pub returns : goal.returns
returns c = defined_once
