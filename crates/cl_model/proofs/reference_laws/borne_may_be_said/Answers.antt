use Rattle.cl_model.proofs.Gone.{borne_said, unrecorded_bears}
use Rattle.cl_model.proofs.reference_laws.borne_may_be_said.Goals as goal

pub returns-clause-said : goal.returns-clause-said
returns-clause-said c = borne_said

pub returns-clause-unrecorded : goal.returns-clause-unrecorded
returns-clause-unrecorded c = unrecorded_bears
