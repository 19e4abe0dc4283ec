use Rattle.cl_model.proofs.Posted.{said_is_settled, linked_is_prepared, lineage_prepared}
use Rattle.cl_model.proofs.laws.said_is_settled.Goals as goal

pub returns-clause-settled : goal.returns-clause-settled
returns-clause-settled c = said_is_settled

pub returns-clause-prepared : goal.returns-clause-prepared
returns-clause-prepared c = linked_is_prepared

pub returns-clause-lineage : goal.returns-clause-lineage
returns-clause-lineage c = lineage_prepared
