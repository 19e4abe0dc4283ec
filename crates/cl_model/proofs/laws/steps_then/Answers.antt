use Rattle.cl_model.proofs.Views.{steps_then}
use Rattle.cl_model.proofs.laws.steps_then.Goals as goal

pub returns : goal.returns
returns c = steps_then
