-- References without where their names lie in memory, and what is true of them.
use Rattle.std.specs.Prelude.{Bool, true, false, Option, Some}
use Rattle.cl_names.specs.Kind.{IsNameOf, IsUnqualified, IsMethod}
use Rattle.cl_classfile.specs.declared.entry.Entry.{Entry}
use Rattle.cl_classfile.specs.declared.entry.Entry.TheVariants.{
  Class,
  Fieldref,
  Methodref,
  InterfaceMethodref,
}
use Rattle.cl_classfile.specs.declared.reference.Symbol as code
use Rattle.cl_classfile.specs.declared.reference.Reference.{Reference}
use Rattle.cl_classfile.specs.declared.reference.Reference.TheVariants as references
use Rattle.cl_classfile.specs.Pool.{NamesType}
use Rattle.cl_classfile.specs.Files.{
  Symbol,
  Citation,
  CitesClass,
  CitesField,
  CitesMethod,
  CitesInterfaceMethod,
}
use Rattle.cl_descriptors.specs.Answers.{IsFieldDescriptor, IsMethodDescriptor}

-- three texts without where they lie (4.4.2)
abbrev pub plain_symbol : code.Symbol → Symbol
plain_symbol s = record { class = s.class.now; name = s.name.now; descriptor = s.descriptor.now }

-- a reference without where its texts lie (4.4.1, 4.4.2)
abbrev pub plain_reference : Reference → Citation
plain_reference (references.Class name) = CitesClass name.now
plain_reference (references.Field s) = CitesField (plain_symbol s)
plain_reference (references.Method s) = CitesMethod (plain_symbol s)
plain_reference (references.InterfaceMethod s) = CitesInterfaceMethod (plain_symbol s)

-- the four kinds of entries that refer to a class or a member (JVMS SE 8, 4.4.1, 4.4.2)
abbrev pub refers : Option Entry → Bool
refers (Some (Class text)) = true
refers (Some (Fieldref class pair)) = true
refers (Some (Methodref class pair)) = true
refers (Some (InterfaceMethodref class pair)) = true
refers _ = false

-- the names of a reference to a field, to a method (4.4.2)
pub record IsFieldSymbol (s : Symbol) : Type 0 where
  pub class : NamesType s.class
  pub name : IsNameOf IsUnqualified s.name
  pub descriptor : IsFieldDescriptor s.descriptor

-- the names of a reference to a method (4.4.2)
pub record IsMethodSymbol (s : Symbol) : Type 0 where
  pub class : NamesType s.class
  pub name : IsNameOf IsMethod s.name
  pub descriptor : IsMethodDescriptor s.descriptor

-- each name is of its kind (4.4.1, 4.4.2)
abbrev pub IsCited : Citation → Type 0
IsCited (CitesClass name) = NamesType name
IsCited (CitesField s) = IsFieldSymbol s
IsCited (CitesMethod s) = IsMethodSymbol s
IsCited (CitesInterfaceMethod s) = IsMethodSymbol s
