use Rattle.cl_registry.proofs.Backed.{fitting_is_borne, posted_is_settled, linked_is_prepared}
use Rattle.cl_registry.proofs.settling_laws.fitting_is_borne.Goals as goal

pub returns-clause-borne : goal.returns-clause-borne
returns-clause-borne c = fitting_is_borne

pub returns-clause-settled : goal.returns-clause-settled
returns-clause-settled c = posted_is_settled

pub returns-clause-linked : goal.returns-clause-linked
returns-clause-linked c = linked_is_prepared
