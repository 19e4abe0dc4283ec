use Rattle.cl_model.proofs.Reached.{plan_is_reference, reference_is_plan}
use Rattle.cl_model.proofs.laws.plan_is_reference.Goals as goal

pub returns-clause-reference : goal.returns-clause-reference
returns-clause-reference c = λ g s loader name i p d v is past. plan_is_reference g s loader name i p d v is past.0 past.1

pub returns-clause-plan : goal.returns-clause-plan
returns-clause-plan c = λ g s loader name i p d v is past. reference_is_plan g s loader name i p d v is past.0 past.1
