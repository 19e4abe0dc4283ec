use Rattle.std.proofs.Common.{refl}
use Rattle.std.specs.Fmt.{digits}
use Rattle.cl_names.specs.Escape.{escaped_text, units_of}
use Rattle.cl_model.proofs.examples.printed_answers.Goals as goal

pub returns-clause-first_line : goal.returns-clause-first_line
unfolding digits
returns-clause-first_line c = refl

pub returns-clause-tenth_line : goal.returns-clause-tenth_line
unfolding digits escaped_text units_of
returns-clause-tenth_line c = refl
