use Rattle.cl_model.proofs.Views.{run_parts}
use Rattle.cl_model.proofs.laws.run_parts.Goals as goal

pub returns : goal.returns
returns c = run_parts
