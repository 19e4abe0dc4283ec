use Rattle.cl_model.proofs.Sound.{runs_are_sound}
use Rattle.cl_delegation.specs.Worlds.{setting_of}
use Rattle.cl_registry.specs.Tables.{steps, state_of}
use Rattle.cl_registry.proofs.Linked.{prepared_comes}
use Rattle.cl_registry.proofs.settling_laws.prepared_comes.Goals as goal

pub returns : goal.returns
returns c content x loader place name kept at own = prepared_comes (setting_of x.config x.script content) (state_of x) loader place name (runs_are_sound (setting_of x.config x.script content) (steps x) kept.run) at own
