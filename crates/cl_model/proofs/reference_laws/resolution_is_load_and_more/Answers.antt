use Rattle.cl_model.proofs.Through.{resolves_through, through_ends}
use Rattle.cl_model.proofs.reference_laws.resolution_is_load_and_more.Goals as goal

pub returns-clause-load : goal.returns-clause-load
returns-clause-load c = resolves_through

pub returns-clause-ends : goal.returns-clause-ends
returns-clause-ends c = through_ends
