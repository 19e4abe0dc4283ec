use Rattle.cl_model.proofs.Runs.{run_goes_on}
use Rattle.cl_model.proofs.laws.run_goes_on.Goals as goal

pub returns : goal.returns
returns c = run_goes_on
