use Rattle.cl_model.proofs.Homes.{home_of_home}
use Rattle.cl_model.proofs.laws.home_of_home.Goals as goal

pub returns : goal.returns
returns c = home_of_home
