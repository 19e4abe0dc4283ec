use Rattle.std.proofs.Common.{refl}
use Rattle.std.specs.Fmt.{digits}
use Rattle.cl_names.specs.Escape.{escaped_text, units_of}
use Rattle.cl_model.proofs.examples.printed_verdicts.Goals as goal

pub returns-clause-array : goal.returns-clause-array
unfolding digits escaped_text units_of
returns-clause-array c = refl

pub returns-clause-base_array : goal.returns-clause-base_array
unfolding digits
returns-clause-base_array c = refl
