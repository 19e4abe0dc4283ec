use Rattle.cl_writer.proofs.Alone.{one_class_line, one_statement, one_listed}
use Rattle.cl_writer.proofs.laws.says_one_thing.Goals as goal

pub returns-clause-class : goal.returns-clause-class
returns-clause-class c = one_class_line

pub returns-clause-line : goal.returns-clause-line
returns-clause-line c = one_statement

pub returns-clause-lines : goal.returns-clause-lines
returns-clause-lines c = one_listed
