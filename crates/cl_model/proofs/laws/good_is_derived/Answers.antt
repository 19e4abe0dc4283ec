use Rattle.cl_model.proofs.Complete.{good_is_derived}
use Rattle.cl_model.proofs.laws.good_is_derived.Goals as goal

pub returns : goal.returns
returns c = good_is_derived
