use Rattle.cl_model.proofs.Frames.{answers_here}
use Rattle.cl_model.proofs.Stacks.{refused_answers}
use Rattle.cl_model.proofs.frame_laws.ends_are_answers.Goals as goal

pub returns-clause-end : goal.returns-clause-end
returns-clause-end c = answers_here

pub returns-clause-refused : goal.returns-clause-refused
returns-clause-refused c = refused_answers
