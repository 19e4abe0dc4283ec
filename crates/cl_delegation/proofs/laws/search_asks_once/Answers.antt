use Rattle.cl_delegation.proofs.Once.{asks_once, asks_few}
use Rattle.cl_delegation.proofs.laws.search_asks_once.Goals as goal

pub returns-clause-once : goal.returns-clause-once
returns-clause-once c = asks_once

pub returns-clause-few : goal.returns-clause-few
returns-clause-few c = asks_few
