use Rattle.cl_registry.proofs.Allowed.{allowed_is_joined}
use Rattle.cl_registry.proofs.laws.allowed_is_joined.Goals as goal

pub returns : goal.returns
returns c = allowed_is_joined
