use Rattle.cl_model.proofs.Circles.{one_subject}
use Rattle.cl_model.proofs.laws.one_subject.Goals as goal

pub returns : goal.returns
returns c = one_subject
