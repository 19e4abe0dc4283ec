use Rattle.cl_registry.proofs.Settled.{settled_stays}
use Rattle.cl_registry.proofs.settling_laws.settled_stays.Goals as goal

pub returns : goal.returns
returns c = settled_stays
