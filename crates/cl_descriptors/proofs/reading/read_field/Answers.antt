use Rattle.std.proofs.Common.{subst}
use Rattle.cl_descriptors.specs.Answers.{GivesReading}
use Rattle.cl_descriptors.proofs.Outcomes.{field_is, field_of_spelling}
use Rattle.cl_descriptors.proofs.reading.read_field.Goals as goal

pub returns-clause-grammar : goal.returns-clause-grammar
returns-clause-grammar c = field_is c.args.bytes.now c.field_of.result c.field_of.ensures

pub returns-clause-only : goal.returns-clause-only
returns-clause-only c = λ t s. subst (λ reading. GivesReading c.field_of.result reading) (field_of_spelling c.args.bytes.now t s) c.field_of.ensures
