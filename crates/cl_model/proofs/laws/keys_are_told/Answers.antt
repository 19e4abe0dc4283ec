use Rattle.cl_model.proofs.Keys.{keys_are_told}
use Rattle.cl_model.proofs.laws.keys_are_told.Goals as goal

pub returns : goal.returns
returns c = keys_are_told
