use Rattle.cl_registry.proofs.Listed.{allowed_is_imposed}
use Rattle.cl_registry.proofs.laws.allowed_is_imposed.Goals as goal

pub returns : goal.returns
returns c = allowed_is_imposed
