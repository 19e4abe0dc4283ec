use Rattle.cl_model.proofs.Ending.{circular_goes_on}
use Rattle.cl_model.proofs.laws.circular_goes_on.Goals as goal

pub returns : goal.returns
returns c = circular_goes_on
