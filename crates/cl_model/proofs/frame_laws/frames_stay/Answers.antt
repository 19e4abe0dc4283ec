use Rattle.cl_model.proofs.Stacks.{frame_push, frame_pop, frame_accept, frame_fits}
use Rattle.cl_model.proofs.frame_laws.frames_stay.Goals as goal

pub returns-clause-push : goal.returns-clause-push
returns-clause-push c = frame_push

pub returns-clause-pop : goal.returns-clause-pop
returns-clause-pop c = frame_pop

pub returns-clause-accept : goal.returns-clause-accept
returns-clause-accept c = frame_accept

pub returns-clause-fits : goal.returns-clause-fits
returns-clause-fits c = frame_fits
