use Rattle.std.proofs.Common.{◌≡◌, length, sym, subst, arith}
use Rattle.cl_hierarchy.specs.RowTables.{IsMadeOf}
use Rattle.cl_hierarchy.proofs.RowTables.{supers_before}
use Rattle.cl_hierarchy.proofs.Listed.{listed_made, listed_some, row_in, listed_in}
use Rattle.cl_hierarchy.proofs.lineage.Lineage.of.Goals as goal

pub rows_in_order-requires-clause-ordered : goal.rows_in_order-requires-clause-ordered
rows_in_order-requires-clause-ordered g c = supers_before _ _ _ c.requires

pub rows_in_order-requires-clause-start : goal.rows_in_order-requires-clause-start
rows_in_order-requires-clause-start g c = row_in _ _ _ c.args.class.now _ c.requires (sym c.in-Some.ensures)

pub unreachable-requires : goal.unreachable-requires
unreachable-requires g c =
    let e : length c.in_ok-rows.rows.items ≡ 0 = omega (arith, c.in-None.ensures.cases) in
    listed_some (λ r. r.value) _ _ _ c.args.class.now _ c.in_ok-rows.rows.items c.requires (sym c.in-Some.ensures) (listed_in (λ r. r.value) _ _ c.in_ok-rows.rows.items c.in_ok-rows.ensures.kins c.in_ok-rows.ensures.rows)
    e

pub of_rows-requires : goal.of_rows-requires
of_rows-requires g c =
    (listed_made (λ r. r.value) _ _ _ c.in_ok-config.config.value c.args.class.now _ c.in_ok-rows.rows.items c.pop.new.self.items c.in-Some-pop.own c.requires c.in_ok-config.ensures (sym c.in-Some.ensures) (listed_in (λ r. r.value) _ _ c.in_ok-rows.rows.items c.in_ok-rows.ensures.kins c.in_ok-rows.ensures.rows)
    c.in-Some-pop.ensures.items).lined

pub returns : goal.returns
returns g c =
    subst (λ l. IsMadeOf c.args.config.now.value (g.R.RowTable.rows c.args.table.now) c.args.class.now l) (sym c.in_ok-of_rows-in-Some-pop.ensures) (
    listed_made (λ r. r.value) _ _ _ c.in_ok-config.config.value c.args.class.now _ c.in_ok-rows.rows.items c.pop.new.self.items c.in-Some-pop.own c.requires c.in_ok-config.ensures (sym c.in-Some.ensures) (listed_in (λ r. r.value) _ _ c.in_ok-rows.rows.items c.in_ok-rows.ensures.kins c.in_ok-rows.ensures.rows)
    c.in-Some-pop.ensures.items).made
