use Rattle.cl_model.proofs.Reached.{said_reference}
use Rattle.cl_model.proofs.laws.said_reference.Goals as goal

pub returns : goal.returns
returns c = λ g s q a loader name i p d v sound asked is planned past. said_reference g s q a loader name i p d v sound asked is planned past.0 past.1
