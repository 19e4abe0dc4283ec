use Rattle.cl_model.proofs.Service.{begun_push}
use Rattle.cl_model.proofs.laws.service_goes_on.Goals as goal

pub returns : goal.returns
returns c = begun_push
