use Rattle.cl_model.proofs.Derivations.{one_error}
use Rattle.cl_model.proofs.laws.one_error.Goals as goal

pub returns : goal.returns
returns c = one_error
