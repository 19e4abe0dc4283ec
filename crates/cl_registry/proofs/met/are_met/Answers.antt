use Rattle.cl_registry.proofs.Tested.{met_all, met_at, met_more}
use Rattle.cl_registry.proofs.met.are_met.Goals as goal

pub loop-place-init : goal.loop-place-init
loop-place-init g c = λ s h. tt

pub returns-then-not-is_met : goal.returns-then-not-is_met
returns-then-not-is_met g c =
    λ s h all.
    c.if-not-is_met.ensures s h (met_at s c.args.equalities.now c.loop-place.place c.index-equalities-place.result c.loop-place-test.true c.index-equalities-place.is all)

pub loop-place-preserved : goal.loop-place-preserved
loop-place-preserved g c =
    λ s h.
    met_more s c.args.equalities.now c.loop-place.place c.index-equalities-place.result c.loop-place-test.true c.index-equalities-place.is (c.loop-place.invariant s h) (c.if-not-is_met.ensures s h)

pub returns : goal.returns
returns g c = λ s h. met_all s c.args.equalities.now c.loop-place.place c.loop-place-test.false (c.loop-place.invariant s h)
