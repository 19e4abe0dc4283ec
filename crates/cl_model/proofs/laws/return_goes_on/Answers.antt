use Rattle.cl_model.proofs.Circles.{return_next}
use Rattle.cl_model.proofs.laws.return_goes_on.Goals as goal

pub returns : goal.returns
returns c = return_next
