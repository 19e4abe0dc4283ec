use Rattle.cl_model.proofs.Runs.{one_answer}
use Rattle.cl_model.proofs.laws.one_answer.Goals as goal

pub returns : goal.returns
returns c = one_answer
