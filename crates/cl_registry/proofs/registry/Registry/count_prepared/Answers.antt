use Rattle.std.proofs.Common.{◌∙◌, ap, subst, sym}
use Rattle.std.specs.Prelude.{Contains}
use Rattle.cl_hierarchy.specs.Rows.{Rowed}
use Rattle.cl_model.specs.declared.class.Class.{Class}
use Rattle.cl_registry.specs.Tables.{state_of}
use Rattle.cl_registry.proofs.Preparing.{none_yet, one_more, up_to_last, up_to_one}
use Rattle.cl_registry.proofs.registry.Registry.count_prepared.Goals as goal

pub loop-at-init : goal.loop-at-init
loop-at-init g c = none_yet c.args.self.now c.args.lineage.now

pub returns-then-not-look_prepared-clause-counted : goal.returns-then-not-look_prepared-clause-counted
returns-then-not-look_prepared-clause-counted g c =
    let is = c.class.ensures.class ∙ ap (λ (r : Rowed). r.class) c.deref.ensures in
    up_to_one c.args.self.now c.args.lineage.now c.above-rows.result.now c.loop-at.at c.index-rows-at.result c.above-rows.ensures.rows c.loop-at-test.true c.index-rows-at.is c.loop-at.invariant
    (λ has. c.if-not-look_prepared.ensures.prepared (subst (λ (k : Class). Contains (state_of c.args.self.now).prepared k) (sym is) has))

pub loop-at-preserved : goal.loop-at-preserved
loop-at-preserved g c =
    let is = c.class.ensures.class ∙ ap (λ (r : Rowed). r.class) c.deref.ensures in
    one_more c.args.self.now c.args.lineage.now c.above-rows.result.now c.loop-at.at c.index-rows-at.result c.above-rows.ensures.rows c.loop-at-test.true c.index-rows-at.is c.loop-at.invariant
    (subst (λ (k : Class). Contains (state_of c.args.self.now).prepared k) is c.if-not-look_prepared.ensures.prepared)

pub returns-clause-counted : goal.returns-clause-counted
returns-clause-counted g c =
    up_to_last c.args.self.now c.args.lineage.now c.above-rows.result.now c.loop-at.at c.above-rows.ensures.rows c.loop-at-test.false c.loop-at.invariant
