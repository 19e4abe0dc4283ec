use Rattle.cl_model.proofs.Service.{begun_part}
use Rattle.cl_model.proofs.laws.part_begins.Goals as goal

pub returns : goal.returns
returns c = begun_part
