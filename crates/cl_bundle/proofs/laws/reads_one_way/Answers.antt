use Rattle.cl_bundle.proofs.OneReading.{one_bundle, bundle_or_fault, one_fault}
use Rattle.cl_bundle.proofs.laws.reads_one_way.Goals as goal

pub returns-clause-same : goal.returns-clause-same
returns-clause-same c = one_bundle

pub returns-clause-one : goal.returns-clause-one
returns-clause-one c = bundle_or_fault

pub returns-clause-fault : goal.returns-clause-fault
returns-clause-fault c = one_fault
