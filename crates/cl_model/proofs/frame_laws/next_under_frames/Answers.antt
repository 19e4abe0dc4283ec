use Rattle.cl_model.proofs.Frames.{complete_is_next, defined_is_next}
use Rattle.cl_model.proofs.frame_laws.next_under_frames.Goals as goal

pub returns-clause-complete : goal.returns-clause-complete
returns-clause-complete c = complete_is_next

pub returns-clause-recorded : goal.returns-clause-recorded
returns-clause-recorded c = defined_is_next
