use Rattle.cl_registry.proofs.Constrained.{marked_is_allowed}
use Rattle.cl_registry.proofs.laws.marked_is_allowed.Goals as goal

pub returns : goal.returns
returns c = marked_is_allowed
