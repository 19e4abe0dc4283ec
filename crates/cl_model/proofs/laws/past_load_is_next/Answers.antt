use Rattle.cl_model.proofs.Pieces.{settle_next, link_need_next, prepare_next}
use Rattle.cl_model.proofs.laws.past_load_is_next.Goals as goal

pub returns-clause-settle : goal.returns-clause-settle
returns-clause-settle c = λ g s loader name i p d v is past may. settle_next g s loader name i p d v is past.0 past.1 may

pub returns-clause-need : goal.returns-clause-need
returns-clause-need c = λ g s loader name p c l k before behind n is past. link_need_next g s loader name p c l k before behind n is past.0 past.1

pub returns-clause-prepare : goal.returns-clause-prepare
returns-clause-prepare c = λ g s loader name p c l k before behind is past. prepare_next g s loader name p c l k before behind is past.0 past.1
