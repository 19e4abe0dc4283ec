use Rattle.cl_model.proofs.Sound.{one_plan_answer}
use Rattle.cl_model.proofs.laws.one_request_answer.Goals as goal

pub returns : goal.returns
returns c = one_plan_answer
