use Rattle.cl_config.proofs.Stops.{script_or_its_fault}
use Rattle.cl_config.proofs.laws.script_or_its_fault.Goals as goal

pub returns : goal.returns
returns c = script_or_its_fault
