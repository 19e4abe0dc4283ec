use Rattle.std.proofs.Common.{map}
use Rattle.cl_hierarchy.proofs.Climbs.{reaches_on}
use Rattle.cl_hierarchy.proofs.lineage.is_above.Goals as goal

pub loop-row-preserved : goal.loop-row-preserved
loop-row-preserved g c =
    reaches_on (map (λ r. r.value) c.loop-row.rest.now) (map (λ r. r.value) c.in-Some.earlier.now) c.deref.result.now c.loop-row.last.now.value c.in-Some.row.now.value _ _ c.args.of.now _ _ c.deref.ensures c.in-Some.ensures.kin c.class.ensures.class c.deref-in-Some.ensures c.is_same.ensures c.if-is_same.false
    c.loop-row.invariant
