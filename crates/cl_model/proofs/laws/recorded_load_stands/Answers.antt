use Rattle.cl_model.proofs.Looks.{load_stands}
use Rattle.cl_model.proofs.laws.recorded_load_stands.Goals as goal

pub returns : goal.returns
returns c w s n absent loader place name m closed h e = let l = load_stands w s n absent loader place name m closed h e in (l.kin, l.ends, l.is_class, l.met)
