use Rattle.cl_model.proofs.Views.{run_then}
use Rattle.cl_model.proofs.laws.run_then.Goals as goal

pub returns : goal.returns
returns c = run_then
