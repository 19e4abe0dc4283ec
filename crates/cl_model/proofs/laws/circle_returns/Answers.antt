use Rattle.cl_model.proofs.Circles.{circle_returns}
use Rattle.cl_model.proofs.laws.circle_returns.Goals as goal

pub returns : goal.returns
returns c = circle_returns
