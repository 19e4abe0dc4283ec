use Rattle.cl_model.proofs.Runs.{never_violated}
use Rattle.cl_model.proofs.laws.never_violated.Goals as goal

pub returns : goal.returns
returns c = never_violated
