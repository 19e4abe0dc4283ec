use Rattle.cl_registry.proofs.Allowed.{other_config_is_stray}
use Rattle.cl_registry.proofs.laws.other_config_is_stray.Goals as goal

pub returns : goal.returns
returns c = other_config_is_stray
