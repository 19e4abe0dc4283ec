use Rattle.cl_model.proofs.Circles.{return_is_circular}
use Rattle.cl_model.proofs.laws.return_is_circular.Goals as goal

pub returns : goal.returns
returns c = return_is_circular
