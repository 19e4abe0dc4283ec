use Rattle.std.proofs.Common.{◌∙◌, if◌then◌else◌, map, ap}
use Rattle.std.specs.Prelude.{nat_le}
use Rattle.cl_classfile.specs.Files.{Name}
use Rattle.cl_model.specs.Preparation.{equals_of}
use Rattle.cl_model.specs.States.{Need, Equal}
use Rattle.cl_hierarchy.specs.Imposed.{needs_of}
use Rattle.cl_preparation.proofs.Constraints.{pushed_equality}
use Rattle.cl_preparation.proofs.described.push_equals.Goals as goal

pub loop-name-preserved : goal.loop-name-preserved
loop-name-preserved c =
    let equal : Name → Need = λ n. if nat_le c.args.a c.args.b then Equal n c.args.a c.args.b else Equal n c.args.b c.args.a in
    pushed_equality equal c.names-name-items.result.now (equals_of c.args.method.now c.args.a c.args.b) c.loop-name.name-index c.name-item.result (needs_of c.args.needs.now.items) c.loop-name.needs.items c.push.new.self.items c.equality.result
    (ap (map equal) c.names-name-items.ensures) c.loop-name-test.true c.name-item.is (c.equality.ensures ∙ ap equal c.in_ok-name.ensures) c.loop-name.invariant c.in_ok-push.ensures.items
