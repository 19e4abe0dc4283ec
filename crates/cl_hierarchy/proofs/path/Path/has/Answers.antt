use Rattle.std.proofs.Common.{◌∙◌, ap}
use Rattle.cl_hierarchy.specs.Paths.{Pathed, is_on}
use Rattle.cl_hierarchy.proofs.Tables.{stands}
use Rattle.cl_hierarchy.proofs.path.Path.has.Goals as goal

pub returns : goal.returns
returns g c =
    c.contains_key.ensures ∙ stands c.args.class.now c.self.inside.frames.entries c.self.invariant.keys ∙ ap (λ (p : Pathed). is_on p c.args.class.now) c.self.view_is
