use Rattle.cl_classfile.specs.Files.{declared_by, method_of}
use Rattle.cl_preparation.proofs.Flags.{typed_at, declared_more}
use Rattle.cl_preparation.proofs.method.methods_of.Goals as goal

pub method_at-requires : goal.method_at-requires
method_at-requires c =
    typed_at c.args.file.now c.pool-pool.ensures.sound c.pool-pool.result.now c.pool-pool.ensures.entries c.methods-members.result.now c.methods-members.ensures
    c.loop-member.member-index c.member-item.result c.loop-member-test.true c.member-item.is

pub loop-member-preserved : goal.loop-member-preserved
loop-member-preserved c =
    declared_more (declared_by method_of c.pool-pool.result.now) c.methods-members.result.now c.loop-member.member-index c.member-item.result _ c.loop-member.methods.items c.push.new.self.items
    c.loop-member-test.true c.member-item.is c.in_ok-method_at.ensures c.loop-member.invariant c.in_ok-push.ensures.items
