use Rattle.cl_model.proofs.Closed.{recorded_is_met}
use Rattle.cl_model.proofs.laws.recorded_is_met.Goals as goal

pub returns : goal.returns
returns c = recorded_is_met
