use Rattle.cl_classfile.proofs.Exact.{each_byte, read_takes, read_again}
use Rattle.cl_classfile.proofs.laws.reading_finds_what_is_spelled.Goals as goal

pub returns-clause-found : goal.returns-clause-found
returns-clause-found c = λ bytes f are. read_takes bytes f (each_byte bytes are)

pub returns-clause-all : goal.returns-clause-all
returns-clause-all c = read_again
