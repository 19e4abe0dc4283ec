use Rattle.cl_hierarchy.specs.Paths.{frames_of}
use Rattle.cl_tasks.specs.Measures.{left_while_loading}
use Rattle.cl_tasks.specs.Repeating.{PathGoesOn}
use Rattle.cl_tasks.proofs.accept.accept_repeated.Given as goal

abbrev pub invariant-loop-whole : goal.invariant-loop-whole
invariant-loop-whole g l = PathGoesOn g.T.Told.told l.fn.path l.path

abbrev pub decreases-loop-whole : goal.decreases-loop-whole
decreases-loop-whole g l = left_while_loading (frames_of l.path)
