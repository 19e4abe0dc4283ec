use Rattle.cl_hierarchy.specs.Tours.{marks, steps_left, stops, listed_at, plain_tour}
use Rattle.cl_hierarchy.specs.Trees.{kin_under, kins}
use Rattle.cl_model.specs.Lineages.{alone, once}
use Rattle.cl_hierarchy.proofs.Stages.{IsStage}
use Rattle.cl_hierarchy.proofs.tour.rows_in_order.Given as goal

abbrev pub invariant-loop-next : goal.invariant-loop-next
invariant-loop-next g l =
    IsStage l.order (g.F.Finds.rows l.table) (once (listed_at l.order (stops l.order (alone (kin_under (kins (g.F.Finds.rows l.table)) l.start.value)) l.wanted))) (plain_tour l.tour)

abbrev pub decreases-loop-next : goal.decreases-loop-next
decreases-loop-next g l = steps_left (kins (g.F.Finds.rows l.table)) (marks l.tour.stack.items)
