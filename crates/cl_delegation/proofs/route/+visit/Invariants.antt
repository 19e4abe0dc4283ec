use Rattle.cl_delegation.proofs.Walks.{IsSoFar}
use Rattle.cl_delegation.proofs.route.+visit.Given as goal

abbrev pub decreases-visit : goal.decreases-visit
decreases-visit l = l.loader

abbrev pub invariant-loop-parent : goal.invariant-loop-parent
invariant-loop-parent l = IsSoFar l.config l.name l.parents l.parent-index l.initial.walk.route.items l.walk.route.items l.walk.asked.items l.walk.done.items
