use Rattle.cl_model.proofs.Sound.{settled_stay}
use Rattle.cl_model.proofs.laws.settled_stay.Goals as goal

pub returns : goal.returns
returns c = settled_stay
