use Rattle.std.proofs.Common.{arith}
use Rattle.cl_tasks.proofs.Left.{are_left}
use Rattle.cl_tasks.proofs.Within.{starts_within}
use Rattle.cl_tasks.proofs.task.Task.new.Goals as goal

pub returns-clause-cost : goal.returns-clause-cost
returns-clause-cost g c = λ w p s. rw c.new-path.ensures (starts_within w c.args.request p s)

pub returns-clause-more : goal.returns-clause-more
returns-clause-more g c = are_left _ (omega arith)
