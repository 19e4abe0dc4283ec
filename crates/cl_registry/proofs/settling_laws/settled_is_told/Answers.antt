use Rattle.cl_registry.proofs.Settled.{settled_is_told, unsettled_is_told}
use Rattle.cl_registry.proofs.settling_laws.settled_is_told.Goals as goal

pub returns-clause-settled : goal.returns-clause-settled
returns-clause-settled c = settled_is_told

pub returns-clause-unsettled : goal.returns-clause-unsettled
returns-clause-unsettled c = unsettled_is_told
