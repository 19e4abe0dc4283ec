use Rattle.cl_model.proofs.Planned.{one_lineage}
use Rattle.cl_model.proofs.laws.one_lineage.Goals as goal

pub returns : goal.returns
returns c = one_lineage
