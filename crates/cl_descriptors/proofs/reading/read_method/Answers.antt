use Rattle.std.proofs.Common.{subst}
use Rattle.cl_descriptors.specs.Answers.{GivesReading}
use Rattle.cl_descriptors.proofs.Outcomes.{method_is, method_of_spelling}
use Rattle.cl_descriptors.proofs.reading.read_method.Goals as goal

pub returns-clause-grammar : goal.returns-clause-grammar
returns-clause-grammar c = method_is c.args.bytes.now c.method_of.result c.method_of.ensures

pub returns-clause-only : goal.returns-clause-only
returns-clause-only c = λ t s. subst (λ reading. GivesReading c.method_of.result reading) (method_of_spelling c.args.bytes.now t s) c.method_of.ensures
