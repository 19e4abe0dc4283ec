use Rattle.cl_model.proofs.Service.{all_served_push}
use Rattle.cl_model.proofs.laws.services_go_on.Goals as goal

pub returns : goal.returns
returns c = all_served_push
