use Rattle.cl_classfile.specs.References.{plain_symbol}
use Rattle.cl_tasks.specs.declared.cited.Kind.TheVariants as kinds
use Rattle.cl_tasks.proofs.EntryCited.{member_kind_ok, typed_field, typed_interface, typed_method}
use Rattle.cl_tasks.proofs.cited.kind_of.Goals as goal

pub returns-in-Some-Field : goal.returns-in-Some-Field
returns-in-Some-Field c =
    let e = rw c.in-Some-Field.field-0-is at c.in-Some-Field.ensures in
    member_kind_ok kinds.Field c.in-Some-Field.symbol.class.now c.args.name.now _ c.asked_of_class.result (typed_field (plain_symbol c.in-Some-Field.symbol) _ e.sound e.value) c.asked_of_class.ensures

pub returns-in-Some-Method : goal.returns-in-Some-Method
returns-in-Some-Method c =
    let e = rw c.in-Some-Method.field-0-is at c.in-Some-Method.ensures in
    member_kind_ok kinds.Method c.in-Some-Method.symbol.class.now c.args.name.now _ c.asked_of_class-in-Some-Method.result (typed_method (plain_symbol c.in-Some-Method.symbol) _ e.sound e.value) c.asked_of_class-in-Some-Method.ensures

pub returns-in-Some-InterfaceMethod : goal.returns-in-Some-InterfaceMethod
returns-in-Some-InterfaceMethod c =
    let e = rw c.in-Some-InterfaceMethod.field-0-is at c.in-Some-InterfaceMethod.ensures in
    member_kind_ok kinds.InterfaceMethod c.in-Some-InterfaceMethod.symbol.class.now c.args.name.now _ c.asked_of_class-in-Some-InterfaceMethod.result (typed_interface (plain_symbol c.in-Some-InterfaceMethod.symbol) _ e.sound e.value) c.asked_of_class-in-Some-InterfaceMethod.ensures
