use Rattle.cl_model.proofs.Tables.{recorded_reached, reached_records}
use Rattle.cl_model.proofs.laws.reached_is_recorded.Goals as goal

pub returns-clause-reached : goal.returns-clause-reached
returns-clause-reached c = recorded_reached

pub returns-clause-recorded : goal.returns-clause-recorded
returns-clause-recorded c = λ w s q p d is past. reached_records w s q p d is past.0 past.1
