use Rattle.cl_registry.proofs.Constrained.{imposed_is_allowed}
use Rattle.cl_registry.proofs.laws.imposed_is_allowed.Goals as goal

pub returns : goal.returns
returns c = imposed_is_allowed
