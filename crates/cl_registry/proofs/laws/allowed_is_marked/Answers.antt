use Rattle.cl_registry.proofs.Constrained.{allowed_is_marked}
use Rattle.cl_registry.proofs.laws.allowed_is_marked.Goals as goal

pub returns : goal.returns
returns c = allowed_is_marked
