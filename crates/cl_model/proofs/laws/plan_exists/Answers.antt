use Rattle.cl_model.proofs.Planned.{plan_exists}
use Rattle.cl_model.proofs.laws.plan_exists.Goals as goal

pub returns : goal.returns
returns c = plan_exists
