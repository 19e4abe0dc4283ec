use Rattle.std.proofs.Common.{rules, ◌≡◌, Some, arith}
use Rattle.cl_writer.specs.Items.{index_of}
use Rattle.cl_writer.proofs.Indexed.{within}
use Rattle.cl_writer.proofs.items.Items.index.Goals as goal

pub overflow_cast-result : goal.overflow_cast-result
overflow_cast-result c =
    let there : index_of c.args.self.now c.args.item.now ≡ Some c.in-Some.index.now = search rules in
    omega (arith, within 1 c.args.self.now c.args.item.now c.in-Some.index.now there)
