use Rattle.cl_model.proofs.Service.{begun_ends}
use Rattle.cl_model.proofs.laws.service_is_whole.Goals as goal

pub returns : goal.returns
returns c = begun_ends
