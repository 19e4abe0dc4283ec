use Rattle.cl_model.proofs.Gone.{linked_imposed, link_comes, link_refusal_comes}
use Rattle.cl_model.proofs.reference_laws.link_comes.Goals as goal

pub returns-clause-imposed : goal.returns-clause-imposed
returns-clause-imposed c = linked_imposed

pub returns-clause-linked : goal.returns-clause-linked
returns-clause-linked c = link_comes

pub returns-clause-refused : goal.returns-clause-refused
returns-clause-refused c = link_refusal_comes
