use Rattle.cl_model.proofs.Views.{steps_same}
use Rattle.cl_model.proofs.laws.steps_same.Goals as goal

pub returns : goal.returns
returns c = steps_same
