use Rattle.cl_model.proofs.Pieces.{no_round_left}
use Rattle.cl_model.proofs.laws.no_round_left.Goals as goal

pub returns : goal.returns
returns c = no_round_left
