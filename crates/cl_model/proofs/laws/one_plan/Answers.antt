use Rattle.cl_model.proofs.Planned.{one_plan}
use Rattle.cl_model.proofs.laws.one_plan.Goals as goal

pub returns : goal.returns
returns c = one_plan
