use Rattle.cl_model.proofs.Derivations.{good_grows}
use Rattle.cl_model.proofs.laws.good_grows.Goals as goal

pub returns : goal.returns
returns c = good_grows
