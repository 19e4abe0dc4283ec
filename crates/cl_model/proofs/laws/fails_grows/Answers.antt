use Rattle.cl_model.proofs.Derivations.{fails_grows}
use Rattle.cl_model.proofs.laws.fails_grows.Goals as goal

pub returns : goal.returns
returns c = fails_grows
