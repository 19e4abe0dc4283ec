use Rattle.cl_model.proofs.Progress.{next_may}
use Rattle.cl_model.proofs.laws.next_may_be_made.Goals as goal

pub returns : goal.returns
returns c = next_may
