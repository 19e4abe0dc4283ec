use Rattle.cl_model.proofs.Tables.{trusted_goes_on}
use Rattle.cl_model.proofs.table_laws.trusted_goes_on.Goals as goal

pub returns : goal.returns
returns c = trusted_goes_on
