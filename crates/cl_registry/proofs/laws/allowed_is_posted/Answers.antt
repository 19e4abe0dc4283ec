use Rattle.cl_registry.proofs.Fitting.{allowed_is_posted}
use Rattle.cl_registry.proofs.laws.allowed_is_posted.Goals as goal

pub returns : goal.returns
returns c = allowed_is_posted
