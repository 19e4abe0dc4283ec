use Rattle.cl_model.proofs.Planned.{one_resolution}
use Rattle.cl_model.proofs.laws.one_resolution.Goals as goal

pub returns : goal.returns
returns c = one_resolution
