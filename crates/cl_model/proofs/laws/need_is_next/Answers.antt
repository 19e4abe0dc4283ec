use Rattle.cl_model.proofs.Service.{need_next, load_wants, resolve_wants}
use Rattle.cl_model.specs.Plans.{Load, Resolve}
use Rattle.cl_model.proofs.laws.need_is_next.Goals as goal

pub returns-clause-load : goal.returns-clause-load
returns-clause-load c = λ g s loader name n h may. need_next g s (Load loader name) n (load_wants loader name) h may

pub returns-clause-resolve : goal.returns-clause-resolve
returns-clause-resolve c = λ g s loader name i n h may. need_next g s (Resolve loader name i) n (resolve_wants loader name i) h may
