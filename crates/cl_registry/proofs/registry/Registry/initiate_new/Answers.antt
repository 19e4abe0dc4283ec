use Rattle.cl_registry.proofs.Entered.{initiate_refused}
use Rattle.cl_registry.proofs.registry.Registry.initiate_new.Goals as goal

pub returns-in-Err-clause-refused : goal.returns-in-Err-clause-refused
returns-in-Err-clause-refused g c = initiate_refused c.args.self.now c.args.home.now c.in-Err.fault c.requires.fresh c.in-Some.ensures.none c.in-Err.ensures.refused
