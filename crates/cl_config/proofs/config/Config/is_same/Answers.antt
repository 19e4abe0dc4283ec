use Rattle.cl_config.proofs.Flats.{tells}
use Rattle.cl_config.proofs.config.Config.is_same.Goals as goal

pub returns : goal.returns
returns c =
    rw (← c.self.view_is, ← c.other.view_is)
    (tells _ _ c.self.inside.flat.items c.other.inside.flat.items c.eq.result c.self.invariant.flat c.other.invariant.flat c.eq.ensures)
