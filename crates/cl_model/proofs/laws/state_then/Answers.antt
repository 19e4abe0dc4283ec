use Rattle.cl_model.proofs.Views.{state_then}
use Rattle.cl_model.proofs.laws.state_then.Goals as goal

pub returns : goal.returns
returns c = state_then
