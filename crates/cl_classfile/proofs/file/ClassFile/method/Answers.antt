use Rattle.cl_classfile.specs.Indexes.{IndexLeads}
use Rattle.cl_classfile.specs.Lookups.{linked_method}
use Rattle.cl_classfile.proofs.Lookups.{method_is, by_index, by_look}
use Rattle.cl_classfile.proofs.file.ClassFile.method.Goals as goal
use Rattle.std.proofs.Common.{◌∙◌}

pub returns-in-Some : goal.returns-in-Some
returns-in-Some c =
    let f = c.args.self.now in
    let sound = c.in-Some.ensures.sound in
    let index = c.in-Some.it.now in
    let led : IndexLeads f.pool index f.fields f.methods = c.in-Some.ensures.index in
    by_index (λ m. m.now) (linked_method f) f.pool f.methods c.methods-methods.result.now c.methods-methods.ensures c.args.name.now c.args.descriptor.now c.led_to.result c.pool-pool.result.now c.pool-pool.ensures.entries index.numbers index.methods led.methods sound.kept.methods.new c.led_to.ensures
    ∙ method_is f sound c.args.name.now c.args.descriptor.now

pub returns-in-None : goal.returns-in-None
returns-in-None c =
    let f = c.args.self.now in
    by_look (λ m. m.now) (linked_method f) f.pool f.methods c.methods-methods.result.now c.methods-methods.ensures c.args.name.now c.args.descriptor.now c.find.result c.pool-pool.result.now c.pool-pool.ensures.entries c.find.ensures
    ∙ method_is f c.pool-pool.ensures.sound c.args.name.now c.args.descriptor.now
