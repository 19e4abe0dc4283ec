use Rattle.cl_model.proofs.Sound.{prepared_stay}
use Rattle.cl_model.proofs.laws.prepared_stay.Goals as goal

pub returns : goal.returns
returns c = prepared_stay
