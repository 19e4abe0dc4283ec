use Rattle.cl_registry.proofs.Entered.{define_refused}
use Rattle.cl_registry.proofs.registry.Registry.define_new.Goals as goal

pub returns-in-Err-clause-refused : goal.returns-in-Err-clause-refused
returns-in-Err-clause-refused g c = define_refused c.args.self.now c.args.draft.now c.in-Err.fault c.requires.fresh c.if-not-may_enter.ensures.may c.in-Err.ensures.refused
