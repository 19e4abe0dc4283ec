use Rattle.cl_model.proofs.Pieces.{one_next_step, come_to_ends}
use Rattle.cl_model.proofs.laws.one_next_step.Goals as goal

pub returns-clause-one : goal.returns-clause-one
returns-clause-one c = one_next_step

pub returns-clause-none : goal.returns-clause-none
returns-clause-none c = come_to_ends

pub returns-clause-ended : goal.returns-clause-ended
returns-clause-ended c = come_to_ends
