use Rattle.cl_model.proofs.Sound.{reference_answer_stays}
use Rattle.cl_model.proofs.laws.reference_answer_stays.Goals as goal

pub returns : goal.returns
returns c = reference_answer_stays
