use Rattle.cl_model.proofs.Gone.{record_is_next, link_record_comes}
use Rattle.cl_model.proofs.reference_laws.record_is_next.Goals as goal

pub returns-clause-made : goal.returns-clause-made
returns-clause-made c = record_is_next

pub returns-clause-refused : goal.returns-clause-refused
returns-clause-refused c = link_record_comes
