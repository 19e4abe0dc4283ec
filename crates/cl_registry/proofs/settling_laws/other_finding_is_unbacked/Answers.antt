use Rattle.cl_registry.proofs.Fitting.{other_finding_is_unbacked}
use Rattle.cl_registry.proofs.settling_laws.other_finding_is_unbacked.Goals as goal

pub returns : goal.returns
returns c = other_finding_is_unbacked
