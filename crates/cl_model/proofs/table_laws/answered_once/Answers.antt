use Rattle.cl_model.proofs.Tables.{answered_once}
use Rattle.cl_model.proofs.table_laws.answered_once.Goals as goal

pub returns : goal.returns
returns c = answered_once
