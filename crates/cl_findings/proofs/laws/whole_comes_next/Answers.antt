use Rattle.cl_findings.proofs.Whole.{completed_is_whole, root_is_whole}
use Rattle.cl_findings.proofs.laws.whole_comes_next.Goals as goal

pub returns-clause-completed : goal.returns-clause-completed
returns-clause-completed c = completed_is_whole

pub returns-clause-root : goal.returns-clause-root
returns-clause-root c = root_is_whole
