use Rattle.cl_model.proofs.Tables.{told_in_round, told_is_recorded, told_is_settled, told_is_prepared}
use Rattle.cl_model.proofs.table_laws.told_rests_on_tables.Goals as goal

pub returns-clause-in_round : goal.returns-clause-in_round
returns-clause-in_round c = told_in_round

pub returns-clause-recorded : goal.returns-clause-recorded
returns-clause-recorded c = told_is_recorded

pub returns-clause-settled : goal.returns-clause-settled
returns-clause-settled c = told_is_settled

pub returns-clause-prepared : goal.returns-clause-prepared
returns-clause-prepared c = told_is_prepared
