use Rattle.cl_model.proofs.Costs.{takes_within}
use Rattle.cl_model.proofs.laws.service_within_cost.Goals as goal

pub returns : goal.returns
returns c = takes_within
