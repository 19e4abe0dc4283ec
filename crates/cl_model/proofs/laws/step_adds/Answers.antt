use Rattle.cl_model.proofs.Progress.{step_adds}
use Rattle.cl_model.proofs.laws.step_adds.Goals as goal

pub returns : goal.returns
returns c = step_adds
