use Rattle.cl_hierarchy.proofs.Joining.{joins_one}
use Rattle.cl_hierarchy.proofs.several.put.Goals as goal

pub returns : goal.returns
returns c = joins_one c.args.classes.now.keys c.insert.new.self.keys c.args.class c.in_ok-insert.ensures.updates.0
