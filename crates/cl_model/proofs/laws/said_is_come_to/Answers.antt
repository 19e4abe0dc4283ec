use Rattle.cl_model.proofs.Service.{load_comes, said_comes, resolve_wants}
use Rattle.cl_model.specs.Plans.{Resolve}
use Rattle.cl_model.proofs.laws.said_is_come_to.Goals as goal

pub returns-clause-load : goal.returns-clause-load
returns-clause-load c = load_comes

pub returns-clause-resolve : goal.returns-clause-resolve
returns-clause-resolve c = λ g s loader name i v h. said_comes g s (Resolve loader name i) v (resolve_wants loader name i) h
