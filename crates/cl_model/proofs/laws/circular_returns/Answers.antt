use Rattle.cl_model.proofs.Ending.{circular_returns}
use Rattle.cl_model.proofs.laws.circular_returns.Goals as goal

pub returns : goal.returns
returns c = circular_returns
