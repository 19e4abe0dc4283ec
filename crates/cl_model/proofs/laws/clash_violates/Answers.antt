use Rattle.cl_model.proofs.Runs.{clash_violates}
use Rattle.cl_model.proofs.laws.clash_violates.Goals as goal

pub returns : goal.returns
returns c = clash_violates
