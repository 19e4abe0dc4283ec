use Rattle.cl_model.proofs.Through.{reference_goes, bad_entry_goes, nameless_goes, through_answers}
use Rattle.cl_model.proofs.reference_laws.entry_goes_through.Goals as goal

pub returns-clause-reference : goal.returns-clause-reference
returns-clause-reference c = reference_goes

pub returns-clause-bad_entry : goal.returns-clause-bad_entry
returns-clause-bad_entry c = bad_entry_goes

pub returns-clause-nameless : goal.returns-clause-nameless
returns-clause-nameless c = nameless_goes

pub returns-clause-answer : goal.returns-clause-answer
returns-clause-answer c = through_answers
