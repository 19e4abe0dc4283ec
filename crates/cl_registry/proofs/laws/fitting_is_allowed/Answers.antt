use Rattle.cl_registry.proofs.Posted.{fitting_is_allowed}
use Rattle.cl_registry.proofs.laws.fitting_is_allowed.Goals as goal

pub returns : goal.returns
returns c = fitting_is_allowed
