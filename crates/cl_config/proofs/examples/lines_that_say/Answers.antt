use Rattle.cl_config.proofs.Worked.{asks_load, asks_spaced, asks_link}
use Rattle.cl_config.proofs.examples.lines_that_say.Goals as goal

pub returns-clause-load : goal.returns-clause-load
returns-clause-load c = asks_load

pub returns-clause-resolve : goal.returns-clause-resolve
returns-clause-resolve c = asks_spaced

pub returns-clause-link : goal.returns-clause-link
returns-clause-link c = asks_link
