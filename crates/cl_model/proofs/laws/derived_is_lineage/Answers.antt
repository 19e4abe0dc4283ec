use Rattle.cl_model.proofs.Trees.{derive_gives}
use Rattle.cl_model.proofs.laws.derived_is_lineage.Goals as goal

pub returns : goal.returns
returns c = derive_gives
