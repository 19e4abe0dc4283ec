use Rattle.cl_model.proofs.Stacks.{supers_bounded}
use Rattle.cl_model.proofs.frame_laws.supertypes_are_bounded.Goals as goal

pub returns : goal.returns
returns c = supers_bounded
