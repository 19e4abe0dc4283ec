use Rattle.cl_registry.proofs.Known.{met_known}
use Rattle.cl_registry.proofs.met.is_met.Goals as goal

pub returns-then-stands_at : goal.returns-then-stands_at
returns-then-stands_at g c = λ s h. met_known s c.args.known.now c.args.place c.args.equality.now c.if-stands_at.ensures h.met
