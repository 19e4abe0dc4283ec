use Rattle.std.proofs.Common.{◌<◌, arith}
use Rattle.cl_model.specs.States.{Met}
use Rattle.cl_hierarchy.specs.Imposed.{needs_of}
use Rattle.cl_findings.proofs.Stood.{first_there, one_of_first}
use Rattle.cl_findings.proofs.stands.equalities_stand.Goals as goal

pub returns-then-not-equality_stands : goal.returns-then-not-equality_stands
returns-then-not-equality_stands g c = λ s held all.
    c.if-not-equality_stands.ensures s held (one_of_first (Met s) (needs_of c.args.needs.now) c.args.met c.loop-at.at c.loop-at-test.true all)

pub returns : goal.returns
returns g c = λ s held.
    let e = c.loop-at-test.false in
    first_there (Met s) (needs_of c.args.needs.now) c.args.met (λ k lt. let l : k < c.loop-at.at = omega (arith, lt, e) in c.loop-at.invariant k l s held)
