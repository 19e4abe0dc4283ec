use Rattle.cl_model.proofs.Circles.{fails_no_circle}
use Rattle.cl_model.proofs.laws.fails_no_circle.Goals as goal

pub returns : goal.returns
returns c = fails_no_circle
