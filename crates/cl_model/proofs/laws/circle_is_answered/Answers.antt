use Rattle.cl_model.proofs.Answered.{circle_is_answered}
use Rattle.cl_model.proofs.laws.circle_is_answered.Goals as goal

pub returns : goal.returns
returns c = circle_is_answered
