use Rattle.cl_model.proofs.Circles.{one_derivation}
use Rattle.cl_model.proofs.laws.one_derivation.Goals as goal

pub returns : goal.returns
returns c = one_derivation
