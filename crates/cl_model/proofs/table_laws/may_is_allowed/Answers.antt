use Rattle.cl_model.proofs.Tables.{may_allows}
use Rattle.cl_model.proofs.table_laws.may_is_allowed.Goals as goal

pub returns : goal.returns
returns c = may_allows
