use Rattle.cl_classfile.specs.Indexes.{IndexLeads}
use Rattle.cl_classfile.specs.Lookups.{linked_field}
use Rattle.cl_classfile.proofs.Lookups.{field_is, by_index, by_look}
use Rattle.cl_classfile.proofs.file.ClassFile.field.Goals as goal
use Rattle.std.proofs.Common.{◌∙◌}

pub returns-in-Some : goal.returns-in-Some
returns-in-Some c =
    let f = c.args.self.now in
    let sound = c.in-Some.ensures.sound in
    let index = c.in-Some.it.now in
    let led : IndexLeads f.pool index f.fields f.methods = c.in-Some.ensures.index in
    by_index (λ m. m.now) (linked_field f) f.pool f.fields c.fields-fields.result.now c.fields-fields.ensures c.args.name.now c.args.descriptor.now c.led_to.result c.pool-pool.result.now c.pool-pool.ensures.entries index.numbers index.fields led.fields sound.kept.fields.new c.led_to.ensures
    ∙ field_is f sound c.args.name.now c.args.descriptor.now

pub returns-in-None : goal.returns-in-None
returns-in-None c =
    let f = c.args.self.now in
    by_look (λ m. m.now) (linked_field f) f.pool f.fields c.fields-fields.result.now c.fields-fields.ensures c.args.name.now c.args.descriptor.now c.find.result c.pool-pool.result.now c.pool-pool.ensures.entries c.find.ensures
    ∙ field_is f c.pool-pool.ensures.sound c.args.name.now c.args.descriptor.now
