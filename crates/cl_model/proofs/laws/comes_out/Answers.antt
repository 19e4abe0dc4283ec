use Rattle.cl_model.proofs.Ending.{comes_out}
use Rattle.cl_model.proofs.laws.comes_out.Goals as goal

pub returns : goal.returns
returns c = comes_out
