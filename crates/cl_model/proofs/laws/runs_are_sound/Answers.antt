use Rattle.cl_model.proofs.Sound.{runs_are_sound}
use Rattle.cl_model.proofs.laws.runs_are_sound.Goals as goal

pub returns : goal.returns
returns c = runs_are_sound
