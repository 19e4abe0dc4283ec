use Rattle.cl_model.proofs.Planned.{resolution_exists}
use Rattle.cl_model.proofs.laws.resolution_exists.Goals as goal

pub returns : goal.returns
returns c = resolution_exists
