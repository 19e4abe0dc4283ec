use Rattle.cl_registry.proofs.Binding.{settled_is_allowed}
use Rattle.cl_registry.proofs.settling_laws.settled_is_allowed.Goals as goal

pub returns : goal.returns
returns c = settled_is_allowed
