-- What entries of a constant pool ask for, before and after a class is loaded (JVMS SE 8, 4.4.1, 4.4.2, 5.4.3).
use Rattle.std.specs.Prelude.{◌≡◌, ℕ, Option, Some, None}
use Rattle.cl_descriptors.specs.declared.types.FieldType.{FieldType}
use Rattle.cl_classfile.specs.Files.{Key, Name, Reference, ToClass, ToField, ToMethod, ToInterfaceMethod, named_type}
use Rattle.cl_model.specs.Plans.{member_target, class_named, nameless}
use Rattle.cl_model.specs.States as states
use Rattle.cl_model.specs.Views.{letter_of}
use Rattle.cl_members.specs.Asking.{IsMemberOf}
use Rattle.cl_tasks.specs.declared.cited.Asked.{Asked}
use Rattle.cl_tasks.specs.declared.cited.Asked.TheVariants as asked
use Rattle.cl_tasks.specs.declared.cited.Kind.{Kind}
use Rattle.cl_tasks.specs.declared.cited.Kind.TheVariants as kinds

-- what a reference asks for: a class to be loaded; or it names none, and is resolved at once (5.4.3.1)
abbrev pub TellsReference : Reference → Asked → Type 0
TellsReference r asked.Nothing = ⊥
TellsReference r asked.ArrayMember = (class_named r ≡ None) × (nameless r ≡ states.ArrayMember)
TellsReference r (asked.PrimitiveArray dims p) = (class_named r ≡ None)
    × (nameless r ≡ states.IsArrayOfBase dims (letter_of p))
TellsReference r (asked.Class name) = class_named r ≡ Some name

-- what an entry asks for, if it is a reference (5.4.3)
abbrev pub TellsEntry : Option Reference → Asked → Type 0
TellsEntry None asked.Nothing = Unit {0}
TellsEntry None other = ⊥
TellsEntry (Some r) a = TellsReference r a

-- what a reference to this type asks for (5.4.3.1)
abbrev pub AsksBy : FieldType → Asked → Type 0
AsksBy t a = TellsReference (ToClass t) a

-- what a reference to a member of what this text names asks for (5.4.3.2 to 5.4.3.4)
abbrev pub AsksTarget : Option Name → Asked → Type 0
AsksTarget o asked.Nothing = ⊥
AsksTarget o asked.ArrayMember = o ≡ None
AsksTarget o (asked.PrimitiveArray dims p) = ⊥
AsksTarget o (asked.Class name) = o ≡ Some name

-- the same of the text (5.4.3.2 to 5.4.3.4)
pub record AsksMember (text : Name) (a : Asked) : Type 0 where
  pub target : FieldType
  pub named : named_type text ≡ Some target
  pub asks : AsksTarget (member_target target) a

-- a reference to a class or an array of so many dimensions (5.4.3.1)
abbrev pub IsToClass : ℕ → Reference → Type 0
IsToClass dims (ToClass t) = dims ≡ t.dims
IsToClass dims other = ⊥

-- an entry refers to a class or an array of so many dimensions, or it does not (5.4.3.1)
abbrev pub TellsItself : Option Reference → Option ℕ → Type 0
TellsItself (Some r) (Some dims) = IsToClass dims r
TellsItself None (Some dims) = ⊥
TellsItself (Some (ToClass t)) None = ⊥
TellsItself other None = Unit {0}

-- a reference to a member of this kind (4.4.2)
abbrev pub reference_of_kind : Kind → FieldType → Key → Reference
reference_of_kind kinds.Field t key = ToField t key
reference_of_kind kinds.Method t key = ToMethod t key
reference_of_kind kinds.InterfaceMethod t key = ToInterfaceMethod t key

-- an entry asks for a member of this kind of the class of a name (5.4.3.2 to 5.4.3.4)
abbrev pub IsKind : Option Reference → Name → Kind → Type 0
IsKind o name k = IsMemberOf (reference_of_kind k) o name
