use Rattle.cl_registry.proofs.Binding.{other_finding_is_stray}
use Rattle.cl_registry.proofs.settling_laws.other_finding_is_stray.Goals as goal

pub returns : goal.returns
returns c = other_finding_is_stray
