use Rattle.cl_classfile.proofs.Numbering.{noted}
use Rattle.cl_classfile.proofs.numbers.Numbers.note.Goals as goal

pub returns-in_ok-number : goal.returns-in_ok-number
returns-in_ok-number c = noted c.args.pool.now c.args.self.now c.number.new.self c.put.new.self c.args.index c.in_ok-number.number c.in_ok-number.ensures.numbers c.in_ok-number.ensures.grows c.in_ok-number.ensures.noted c.in_ok-number.ensures.is c.put.ensures.slots c.put.ensures.mask c.put.ensures.others c.put.ensures.noted
