use Rattle.cl_config.proofs.Stops.{script_has_one_fault}
use Rattle.cl_config.proofs.laws.script_has_one_fault.Goals as goal

pub returns : goal.returns
returns c = script_has_one_fault
