use Rattle.cl_model.proofs.Sound.{one_reference_answer}
use Rattle.cl_model.proofs.laws.one_reference_answer.Goals as goal

pub returns : goal.returns
returns c = one_reference_answer
