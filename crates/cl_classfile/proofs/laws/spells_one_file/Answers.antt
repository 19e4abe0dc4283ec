use Rattle.cl_classfile.proofs.Exact.{one_file}
use Rattle.cl_classfile.proofs.laws.spells_one_file.Goals as goal

pub returns : goal.returns
returns c = one_file
