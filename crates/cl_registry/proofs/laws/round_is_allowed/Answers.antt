use Rattle.cl_registry.proofs.Allowed.{round_is_allowed}
use Rattle.cl_registry.proofs.laws.round_is_allowed.Goals as goal

pub returns : goal.returns
returns c = round_is_allowed
