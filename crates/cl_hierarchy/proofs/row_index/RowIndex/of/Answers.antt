use Rattle.std.proofs.Common.{[], ◌∷◌, refl}
use Rattle.cl_hierarchy.proofs.RowIndex.{index_first, index_next}
use Rattle.cl_hierarchy.proofs.row_index.RowIndex.of.Goals as goal

pub loop-row-init : goal.loop-row-init
loop-row-init g c = record {
  later = c.args.own.now.value ∷ [];
  split = refl;
  has = c.in_ok-put.ensures [] (index_first (λ r. r.value) c.with_hasher-table.result.entries c.with_hasher-table.ensures.empty);
}

pub loop-row-preserved : goal.loop-row-preserved
loop-row-preserved g c =
    index_next (λ r. r.value) c.loop-row.table.entries c.put-in-Some.new.table.entries _ c.args.own.now.value c.loop-row.rest.now c.in-Some.earlier.now c.in-Some.row.now c.in-Some.ensures.cases.0 c.in_ok-put-2.ensures c.loop-row.invariant
