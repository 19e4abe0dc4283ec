use Rattle.cl_model.proofs.Derivations.{good_or_fails}
use Rattle.cl_model.proofs.laws.good_or_fails.Goals as goal

pub returns : goal.returns
returns c = good_or_fails
