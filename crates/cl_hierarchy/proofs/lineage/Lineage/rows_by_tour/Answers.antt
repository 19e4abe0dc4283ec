use Rattle.cl_model.specs.Lineages.{Kin, alone, once}
use Rattle.cl_hierarchy.specs.Tours.{stops, listed_at}
use Rattle.cl_hierarchy.proofs.Inside.{ordered, own_stands, rows_inside, table_at, listed_inside}
use Rattle.cl_hierarchy.proofs.lineage.Lineage.rows_by_tour.Goals as goal

pub rows_in_order-requires-clause-ordered : goal.rows_in_order-requires-clause-ordered
rows_in_order-requires-clause-ordered g c =
    ordered c.args.self.now c.in_ok-table.table _ c.above.ensures.kept.order (table_at c.args.self.now c.in_ok-table.table _ _ c.in_ok-table.ensures c.above.ensures.rows c.own.ensures.own) c.own.ensures.own

pub rows_in_order-requires-clause-start : goal.rows_in_order-requires-clause-start
rows_in_order-requires-clause-start g c =
    own_stands c.args.self.now c.in_ok-table.table _ c.above.ensures.kept.order (table_at c.args.self.now c.in_ok-table.table _ _ c.in_ok-table.ensures c.above.ensures.rows c.own.ensures.own) c.own-2.ensures.own

pub returns-clause-listed : goal.returns-clause-listed
returns-clause-listed g c =
    listed_inside c.args.self.now c.in_ok-table.table _ c.above.ensures.kept.order (table_at c.args.self.now c.in_ok-table.table _ _ c.in_ok-table.ensures c.above.ensures.rows c.own.ensures.own) c.own-2.ensures.own
    (λ v. v.items) (λ r. r.value) (λ (k : Kin). once (listed_at c.args.order (stops c.args.order (alone k) c.args.wanted))) c.rows_in_order.result c.rows_in_order.ensures.kins c.rows_in_order.ensures.rows

pub returns-clause-rows : goal.returns-clause-rows
returns-clause-rows g c =
    rows_inside c.args.self.now c.in_ok-table.table _ c.above.ensures.kept.order (table_at c.args.self.now c.in_ok-table.table _ _ c.in_ok-table.ensures c.above.ensures.rows c.own.ensures.own) c.own.ensures.own
    (λ v. v.items) (λ r. r.value) c.rows_in_order.result c.rows_in_order.ensures.rows
