use Rattle.cl_model.proofs.Closed.{runs_are_closed}
use Rattle.cl_model.proofs.laws.runs_are_closed.Goals as goal

pub returns : goal.returns
returns c = runs_are_closed
