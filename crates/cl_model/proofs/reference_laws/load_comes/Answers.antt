use Rattle.cl_model.proofs.Gone.{unreached_comes, load_refusal_comes}
use Rattle.cl_model.proofs.reference_laws.load_comes.Goals as goal

pub returns-clause-unreached : goal.returns-clause-unreached
returns-clause-unreached c = unreached_comes

pub returns-clause-refused : goal.returns-clause-refused
returns-clause-refused c = load_refusal_comes
