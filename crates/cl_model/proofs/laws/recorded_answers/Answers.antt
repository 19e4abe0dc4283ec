use Rattle.cl_model.proofs.Looks.{recorded_answers}
use Rattle.cl_model.proofs.laws.recorded_answers.Goals as goal

pub returns : goal.returns
returns c = recorded_answers
