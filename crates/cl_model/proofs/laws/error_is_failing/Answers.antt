use Rattle.cl_model.proofs.Obstacles.{derive_err}
use Rattle.cl_model.proofs.laws.error_is_failing.Goals as goal

pub returns : goal.returns
returns c = derive_err
