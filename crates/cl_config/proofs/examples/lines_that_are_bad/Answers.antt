use Rattle.cl_config.proofs.Worked.{bad_name, lacks_resolve}
use Rattle.cl_config.proofs.examples.lines_that_are_bad.Goals as goal

pub returns-clause-no_class : goal.returns-clause-no_class
returns-clause-no_class c = bad_name

pub returns-clause-unknown : goal.returns-clause-unknown
returns-clause-unknown c = lacks_resolve
