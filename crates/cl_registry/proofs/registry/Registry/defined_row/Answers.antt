use Rattle.std.proofs.Common.{◌∙◌, ap}
use Rattle.cl_model.specs.declared.class.Class.{Class}
use Rattle.cl_registry.proofs.Tracing.{differs, lacks_row, other_row}
use Rattle.cl_registry.proofs.registry.Registry.defined_row.Goals as goal

pub returns-in-None : goal.returns-in-None
returns-in-None g c = lacks_row g.T.Told.told c.args.self.now c.args.loader c.args.name.now c.look.ensures.kept c.in-None.ensures.found

pub returns : goal.returns
returns g c = other_row g.T.Told.told c.args.self.now c.args.loader c.args.name.now c.in-Some.row.now.value c.look.ensures.kept c.in-Some.ensures.found (λ e. differs c.class.result.now.loader c.args.loader c.if-eq.ensures (ap (λ (d : Class). d.loader) (c.class.ensures.class ∙ ap (λ r. r.class) c.deref.ensures) ∙ e))
