use Rattle.cl_pool.proofs.pool.Pool.take_turns.Given as goal

abbrev pub decreases-loop-alloc : goal.decreases-loop-alloc
decreases-loop-alloc g l = l.task.left
