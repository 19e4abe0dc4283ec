use Rattle.cl_model.proofs.Sound.{plan_answer_stays}
use Rattle.cl_model.proofs.laws.request_answer_stays.Goals as goal

pub returns : goal.returns
returns c = plan_answer_stays
