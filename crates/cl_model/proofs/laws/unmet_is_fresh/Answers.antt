use Rattle.cl_model.proofs.Looks.{unmet_is_fresh}
use Rattle.cl_model.proofs.laws.unmet_is_fresh.Goals as goal

pub returns : goal.returns
returns c = unmet_is_fresh
