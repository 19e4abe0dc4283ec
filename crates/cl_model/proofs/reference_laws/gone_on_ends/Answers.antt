use Rattle.cl_model.proofs.Gone.{gone_on_ends, gone_on_next}
use Rattle.cl_model.proofs.reference_laws.gone_on_ends.Goals as goal

pub returns-clause-ends : goal.returns-clause-ends
returns-clause-ends c = gone_on_ends

pub returns-clause-next : goal.returns-clause-next
returns-clause-next c = gone_on_next
