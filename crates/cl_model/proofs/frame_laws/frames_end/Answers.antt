use Rattle.cl_model.proofs.Frames.{missing_ends, faulty_ends, circle_ends, misfit_ends}
use Rattle.cl_model.proofs.frame_laws.frames_end.Goals as goal

pub returns-clause-missing : goal.returns-clause-missing
returns-clause-missing c = missing_ends

pub returns-clause-faulty : goal.returns-clause-faulty
returns-clause-faulty c = faulty_ends

pub returns-clause-circle : goal.returns-clause-circle
returns-clause-circle c = circle_ends

pub returns-clause-misfit : goal.returns-clause-misfit
returns-clause-misfit c = misfit_ends
