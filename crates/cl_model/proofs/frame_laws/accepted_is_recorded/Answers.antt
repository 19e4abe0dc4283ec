use Rattle.cl_model.proofs.Stacks.{kept_stays, kept_is_met, complete_is_kept, accepted_is_named}
use Rattle.cl_model.proofs.frame_laws.accepted_is_recorded.Goals as goal

pub returns-clause-stays : goal.returns-clause-stays
returns-clause-stays c = kept_stays

pub returns-clause-met : goal.returns-clause-met
returns-clause-met c = kept_is_met

pub returns-clause-complete : goal.returns-clause-complete
returns-clause-complete c = complete_is_kept

pub returns-clause-names : goal.returns-clause-names
returns-clause-names c = accepted_is_named
