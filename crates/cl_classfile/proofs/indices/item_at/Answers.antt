use Rattle.cl_classfile.proofs.Entries.{at_lent}
use Rattle.cl_classfile.proofs.indices.item_at.Goals as goal

pub returns : goal.returns
returns g c = at_lent c.args.items.now c.args.index c.get.result c.if-index-eq0.false c.get.ensures.lookup
