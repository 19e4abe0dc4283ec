use Rattle.cl_model.proofs.Reached.{file_is_read}
use Rattle.cl_model.proofs.laws.file_is_read.Goals as goal

pub returns : goal.returns
returns c = file_is_read
