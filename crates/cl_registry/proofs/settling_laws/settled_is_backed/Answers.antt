use Rattle.cl_registry.proofs.Backed.{settled_is_backed}
use Rattle.cl_registry.proofs.settling_laws.settled_is_backed.Goals as goal

pub returns : goal.returns
returns c = settled_is_backed
