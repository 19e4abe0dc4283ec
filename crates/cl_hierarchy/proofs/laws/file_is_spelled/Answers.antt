use Rattle.cl_hierarchy.proofs.Spelling.{file_is_spelled}
use Rattle.cl_hierarchy.proofs.laws.file_is_spelled.Goals as goal

pub returns : goal.returns
returns c = file_is_spelled
