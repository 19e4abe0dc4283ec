use Rattle.cl_model.proofs.Runs.{met_stays}
use Rattle.cl_model.proofs.laws.met_stays.Goals as goal

pub returns : goal.returns
returns c = met_stays
