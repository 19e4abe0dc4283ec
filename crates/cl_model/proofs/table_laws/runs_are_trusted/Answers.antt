use Rattle.cl_model.proofs.Tables.{runs_are_trusted}
use Rattle.cl_model.proofs.table_laws.runs_are_trusted.Goals as goal

pub returns : goal.returns
returns c = runs_are_trusted
