use Rattle.cl_registry.proofs.Named.{recorded_is_named}
use Rattle.cl_registry.proofs.laws.recorded_is_named.Goals as goal

pub returns : goal.returns
returns c = recorded_is_named
