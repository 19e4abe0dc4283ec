use Rattle.cl_model.proofs.Reached.{said_alike}
use Rattle.cl_model.proofs.laws.said_alike.Goals as goal

pub returns : goal.returns
returns c = said_alike
