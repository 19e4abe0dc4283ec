use Rattle.cl_model.proofs.Answered.{circular_is_answered}
use Rattle.cl_model.proofs.laws.circular_is_answered.Goals as goal

pub returns : goal.returns
returns c = circular_is_answered
