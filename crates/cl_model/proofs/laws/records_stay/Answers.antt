use Rattle.cl_model.proofs.Runs.{records_stay}
use Rattle.cl_model.proofs.laws.records_stay.Goals as goal

pub returns : goal.returns
returns c = records_stay
