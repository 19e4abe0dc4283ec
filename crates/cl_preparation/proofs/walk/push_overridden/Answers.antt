use Rattle.std.proofs.Common.{ap}
use Rattle.std.proofs.lemmas.Result.{IfOk-at_ok}
use Rattle.cl_model.specs.declared.class.Class.{Class}
use Rattle.cl_hierarchy.specs.Imposed.{needs_of}
use Rattle.cl_preparation.specs.Relatives.{bare}
use Rattle.cl_preparation.proofs.Walking.{walking_step}
use Rattle.cl_preparation.proofs.walk.push_overridden.Goals as goal

pub loop-class-preserved : goal.loop-class-preserved
loop-class-preserved g c =
    walking_step (λ r. bare r.value) c.args.method.now c.args.own.now.class.loader c.class-in-loop-class.result.now.loader c.loop-class.opened c.visit.new.opened (needs_of c.loop-class.needs.items) (needs_of c.visit.new.needs.items)
    c.args.superclasses.now c.loop-class.class-index c.class-item.result (bare c.deref.result.now) _ c.loop-class-test.true c.class-item.is (ap bare c.deref.ensures) (ap (λ (x : Class). x.loader) c.class-in-loop-class.ensures.class)
    c.loop-class.invariant (λ before was. IfOk-at_ok _ c.in_ok-visit.was (c.visit.ensures before was))
