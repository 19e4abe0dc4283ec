use Rattle.cl_config.proofs.Flats.{flat_tells_apart}
use Rattle.cl_config.proofs.laws.flat_tells_apart.Goals as goal

pub returns : goal.returns
returns c = flat_tells_apart
