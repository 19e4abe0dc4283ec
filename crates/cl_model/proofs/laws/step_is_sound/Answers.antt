use Rattle.cl_model.proofs.Sound.{sound_after}
use Rattle.cl_model.proofs.laws.step_is_sound.Goals as goal

pub returns : goal.returns
returns c = sound_after
