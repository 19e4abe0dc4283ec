use Rattle.cl_model.proofs.Sound.{posted_stay}
use Rattle.cl_model.proofs.laws.posted_stay.Goals as goal

pub returns : goal.returns
returns c = posted_stay
