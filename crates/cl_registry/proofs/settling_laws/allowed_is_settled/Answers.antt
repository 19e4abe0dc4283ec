use Rattle.cl_registry.proofs.Binding.{allowed_is_settled}
use Rattle.cl_registry.proofs.settling_laws.allowed_is_settled.Goals as goal

pub returns : goal.returns
returns c = allowed_is_settled
