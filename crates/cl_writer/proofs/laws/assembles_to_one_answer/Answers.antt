use Rattle.cl_writer.proofs.Alone.{one_answer}
use Rattle.cl_writer.proofs.Found.{some_answer}
use Rattle.cl_writer.proofs.laws.assembles_to_one_answer.Goals as goal

pub returns-clause-some : goal.returns-clause-some
returns-clause-some c = some_answer

pub returns-clause-one : goal.returns-clause-one
returns-clause-one c = one_answer
