use Rattle.cl_registry.proofs.Allowed.{entered_is_allowed}
use Rattle.cl_registry.proofs.laws.entered_is_allowed.Goals as goal

pub returns : goal.returns
returns c = entered_is_allowed
