use Rattle.cl_model.proofs.Stacks.{path_scanned}
use Rattle.cl_model.proofs.frame_laws.path_is_scanned.Goals as goal

pub returns : goal.returns
returns c = path_scanned
