use Rattle.cl_constraints.proofs.Standing.{unrefused}
use Rattle.cl_constraints.proofs.laws.unrefused_may_be_added.Goals as goal

pub returns : goal.returns
returns c = unrefused
