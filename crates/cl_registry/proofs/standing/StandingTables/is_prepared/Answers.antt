use Rattle.cl_registry.proofs.Referenced.{prepared_so}
use Rattle.cl_registry.proofs.standing.StandingTables.is_prepared.Goals as goal

pub returns : goal.returns
returns c s h = prepared_so c.contains.result s c.args.self.now.prepared.now.keys c.args.class.now c.contains.ensures h.1
