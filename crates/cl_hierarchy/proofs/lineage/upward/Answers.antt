use Rattle.std.proofs.Common.{ap, map}
use Rattle.cl_hierarchy.specs.Trees.{superclass_in}
use Rattle.cl_hierarchy.proofs.Climbs.{all_back, begun, ends_in, goes_on_in}
use Rattle.cl_hierarchy.proofs.lineage.upward.Goals as goal

pub loop-row-init : goal.loop-row-init
loop-row-init g c = begun (map (λ r. r.value) c.args.rows.now) _ (superclass_in c.args.under.now.value) (ap (map (λ r. r.value)) c.new-found.ensures.items)

pub loop-row-preserved : goal.loop-row-preserved
loop-row-preserved g c =
    goes_on_in (λ r. r.value) c.args.rows.now c.loop-row.found.items c.push.new.self.items c.loop-row.rest.now c.in-Some.earlier.now c.in-Some.row.now c.in_ok-try_clone.field-0 c.deref.result.now c.loop-row.last.now.value
    (superclass_in c.args.under.now.value) c.requires c.loop-row.invariant c.deref.ensures c.in-Some.ensures.kin c.in-Some.ensures.place c.in_ok-push.ensures.items c.in_ok-try_clone.ensures

pub returns-clause-kins : goal.returns-clause-kins
returns-clause-kins g c =
    ends_in (λ r. r.value) c.args.rows.now c.loop-row.found.items c.loop-row.rest.now c.deref.result.now c.loop-row.last.now.value (superclass_in c.args.under.now.value) c.loop-row.invariant c.deref.ensures c.in_default.ensures.kin

pub returns-clause-rows : goal.returns-clause-rows
returns-clause-rows g c = all_back (λ r. r.value) _ c.loop-row.found.items c.loop-row.invariant.rows_are
