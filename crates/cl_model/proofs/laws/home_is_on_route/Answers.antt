use Rattle.cl_model.proofs.Probes.{home_is_on_route}
use Rattle.cl_model.proofs.laws.home_is_on_route.Goals as goal

pub returns : goal.returns
returns c = home_is_on_route
