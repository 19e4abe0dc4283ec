use Rattle.cl_bundle.proofs.Alone.{one_told, one_wrong, told_or_wrong}
use Rattle.cl_bundle.proofs.laws.sections_tell_one_content.Goals as goal

pub returns-clause-same : goal.returns-clause-same
returns-clause-same c = one_told

pub returns-clause-one : goal.returns-clause-one
returns-clause-one c = told_or_wrong

pub returns-clause-fault : goal.returns-clause-fault
returns-clause-fault c = one_wrong
