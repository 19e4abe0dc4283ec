use Rattle.cl_model.proofs.Measures.{push_falls, root_falls, load_falls, accept_falls, pop_falls, turn_falls}
use Rattle.cl_model.proofs.frame_laws.left_falls.Goals as goal

pub returns-clause-push : goal.returns-clause-push
returns-clause-push c = push_falls

pub returns-clause-root : goal.returns-clause-root
returns-clause-root c = root_falls

pub returns-clause-load : goal.returns-clause-load
returns-clause-load c = load_falls

pub returns-clause-accept : goal.returns-clause-accept
returns-clause-accept c = accept_falls

pub returns-clause-pop : goal.returns-clause-pop
returns-clause-pop c = pop_falls

pub returns-clause-turn : goal.returns-clause-turn
returns-clause-turn c = turn_falls
