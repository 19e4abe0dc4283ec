use Rattle.cl_model.proofs.Ending.{good_at_home}
use Rattle.cl_model.proofs.laws.good_is_at_home.Goals as goal

pub returns : goal.returns
returns c = good_at_home
