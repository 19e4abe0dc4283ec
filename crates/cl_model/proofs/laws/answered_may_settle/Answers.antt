use Rattle.cl_model.proofs.Posted.{may_settle, may_prepare}
use Rattle.cl_model.proofs.laws.answered_may_settle.Goals as goal

pub returns-clause-settle : goal.returns-clause-settle
returns-clause-settle c = may_settle

pub returns-clause-prepare : goal.returns-clause-prepare
returns-clause-prepare c = may_prepare
