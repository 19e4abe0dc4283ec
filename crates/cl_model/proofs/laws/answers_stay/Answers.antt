use Rattle.cl_model.proofs.Runs.{answers_stay}
use Rattle.cl_model.proofs.laws.answers_stay.Goals as goal

pub returns : goal.returns
returns c = answers_stay
