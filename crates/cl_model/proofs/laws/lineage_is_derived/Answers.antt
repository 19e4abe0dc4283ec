use Rattle.cl_model.proofs.Trees.{lineage_is_derived}
use Rattle.cl_model.proofs.laws.lineage_is_derived.Goals as goal

pub returns : goal.returns
returns c = lineage_is_derived
