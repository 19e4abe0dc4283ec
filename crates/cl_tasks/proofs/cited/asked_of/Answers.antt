use Rattle.cl_classfile.specs.References.{plain_symbol}
use Rattle.cl_tasks.specs.declared.cited.Kind.TheVariants as kinds
use Rattle.cl_tasks.proofs.EntryCited.{member_tells_ok, typed_field, typed_interface, typed_method}
use Rattle.cl_tasks.proofs.cited.asked_of.Goals as goal

pub returns-in-Some-Field : goal.returns-in-Some-Field
returns-in-Some-Field c =
    let e = rw c.in-Some-Field.field-0-is at c.in-Some-Field.ensures in
    member_tells_ok kinds.Field c.in-Some-Field.symbol.class.now _ c.member_of.result (typed_field (plain_symbol c.in-Some-Field.symbol) _ e.sound e.value) c.member_of.ensures

pub returns-in-Some-Method : goal.returns-in-Some-Method
returns-in-Some-Method c =
    let e = rw c.in-Some-Method.field-0-is at c.in-Some-Method.ensures in
    member_tells_ok kinds.Method c.in-Some-Method.symbol.class.now _ c.member_of-in-Some-Method.result (typed_method (plain_symbol c.in-Some-Method.symbol) _ e.sound e.value) c.member_of-in-Some-Method.ensures

pub returns-in-Some-InterfaceMethod : goal.returns-in-Some-InterfaceMethod
returns-in-Some-InterfaceMethod c =
    let e = rw c.in-Some-InterfaceMethod.field-0-is at c.in-Some-InterfaceMethod.ensures in
    member_tells_ok kinds.InterfaceMethod c.in-Some-InterfaceMethod.symbol.class.now _ c.member_of-in-Some-InterfaceMethod.result (typed_interface (plain_symbol c.in-Some-InterfaceMethod.symbol) _ e.sound e.value) c.member_of-in-Some-InterfaceMethod.ensures
