use Rattle.cl_model.proofs.Planned.{lineage_exists}
use Rattle.cl_model.proofs.laws.lineage_exists.Goals as goal

pub returns : goal.returns
returns c = lineage_exists
