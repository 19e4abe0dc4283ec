use Rattle.cl_config.proofs.Stops.{one_scripted}
use Rattle.cl_config.proofs.script.text_is_one_script.Goals as goal

pub returns : goal.returns
returns c = one_scripted
