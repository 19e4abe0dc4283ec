use Rattle.std.proofs.Common.{◌<◌, arith}
use Rattle.std.specs.Prelude.{Contains}
use Rattle.cl_hierarchy.specs.Lineages.{rows_in}
use Rattle.cl_hierarchy.specs.Rows.{Rowed}
use Rattle.cl_findings.proofs.Stood.{first_there, mapped, one_of_first, unmapped}
use Rattle.cl_findings.proofs.stands.classes_are_prepared.Goals as goal

pub returns-then-not-class_is_prepared : goal.returns-then-not-class_is_prepared
returns-then-not-class_is_prepared g c = λ s held all.
    c.if-not-class_is_prepared.ensures s held
    (one_of_first (λ (r : Rowed). Contains s.prepared r.class) (rows_in c.args.lineage.now) c.args.place c.loop-at.at c.loop-at-test.true (unmapped (Contains s.prepared) (λ (r : Rowed). r.class) _ all))

pub returns : goal.returns
returns g c = λ s held.
    let e = c.loop-at-test.false in
    mapped (Contains s.prepared) (λ (r : Rowed). r.class) _
    (first_there (λ (r : Rowed). Contains s.prepared r.class) (rows_in c.args.lineage.now) c.args.place (λ k lt. let l : k < c.loop-at.at = omega (arith, lt, e) in c.loop-at.invariant k l s held))
