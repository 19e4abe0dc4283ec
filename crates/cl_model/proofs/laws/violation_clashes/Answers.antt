use Rattle.cl_model.proofs.Runs.{violation_clashes}
use Rattle.cl_model.proofs.laws.violation_clashes.Goals as goal

pub returns : goal.returns
returns c = violation_clashes
