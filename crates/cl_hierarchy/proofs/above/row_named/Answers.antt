use Rattle.cl_hierarchy.proofs.Scans.{found_in, passed_in, shorter}
use Rattle.cl_hierarchy.proofs.above.row_named.Goals as goal

pub returns-then-is_of-clause-kin : goal.returns-then-is_of-clause-kin
returns-then-is_of-clause-kin g c =
    found_in (λ r. r.value) c.args.rows.now c.loop-row.rest.now c.in-Some.earlier.now c.in-Some.row.now _ _ _ _ c.in-Some.ensures.cases.0 c.class.ensures.class c.deref.ensures c.is_of.ensures c.loop-row.invariant.0
    c.if-is_of.true

pub loop-row-preserved : goal.loop-row-preserved
loop-row-preserved g c = (
  passed_in (λ r. r.value) c.args.rows.now c.loop-row.rest.now c.in-Some.earlier.now c.in-Some.row.now _ _ _ _ c.in-Some.ensures.cases.0 c.class.ensures.class c.deref.ensures c.is_of.ensures c.loop-row.invariant.0
      c.if-is_of.false,
  shorter c.args.rows.now c.loop-row.rest.now c.in-Some.earlier.now c.in-Some.row.now c.in-Some.ensures.cases.0 c.loop-row.invariant.1,
)
