-- The members that references of a pool name, as the code has them (JVMS SE 8, 4.4.2).
use Rattle.std.specs.Prelude.{Option, Some, None}
use Rattle.cl_classfile.specs.declared.reference.Symbol.{Symbol}
use Rattle.cl_classfile.specs.declared.reference.Reference.{Reference}
use Rattle.cl_classfile.specs.declared.reference.Reference.TheVariants.{
  Field,
  Method,
  InterfaceMethod,
}

-- the field that is referred to, if it is one
abbrev pub field_of : Option Reference → Option Symbol
field_of (Some (Field s)) = Some s
field_of _ = None

-- the method of a class that is referred to, if it is one
abbrev pub method_of : Option Reference → Option Symbol
method_of (Some (Method s)) = Some s
method_of _ = None

-- the method of an interface that is referred to, if it is one
abbrev pub interface_method_of : Option Reference → Option Symbol
interface_method_of (Some (InterfaceMethod s)) = Some s
interface_method_of _ = None
