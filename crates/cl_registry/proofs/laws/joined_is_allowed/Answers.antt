use Rattle.cl_registry.proofs.Allowed.{joined_is_allowed}
use Rattle.cl_registry.proofs.laws.joined_is_allowed.Goals as goal

pub returns : goal.returns
returns c = joined_is_allowed
