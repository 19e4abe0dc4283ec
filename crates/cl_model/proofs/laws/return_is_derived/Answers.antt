use Rattle.cl_model.proofs.Circles.{return_is_derived}
use Rattle.cl_model.proofs.laws.return_is_derived.Goals as goal

pub returns : goal.returns
returns c = return_is_derived
