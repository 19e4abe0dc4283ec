use Rattle.cl_model.proofs.Outcomes.{fails_is_derived}
use Rattle.cl_model.proofs.laws.fails_is_derived.Goals as goal

pub returns : goal.returns
returns c = fails_is_derived
