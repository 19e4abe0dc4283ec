use Rattle.cl_source.proofs.Entries.{class_stays}
use Rattle.cl_source.proofs.laws.class_names_stay_within.Goals as goal

pub returns : goal.returns
returns c = class_stays
