-- Member references, and what looking a member up answers (JVMS SE 8, 5.4.3.2 to 5.4.3.4).
use Rattle.std.specs.Prelude.{
  ◌≡◌,
  ℕ,
  Option,
  Some,
  None,
  Result,
  Ok,
  Err,
  IfOk,
  IsSome,
  option_map,
  option_and_then,
}
use Rattle.cl_descriptors.specs.declared.types.FieldType.{FieldType}
use Rattle.cl_classfile.specs.Files.{
  File,
  Key,
  Member,
  Name,
  Symbol,
  Reference,
  ToClass,
  ToField,
  ToMethod,
  ToInterfaceMethod,
  reference,
}
use Rattle.cl_model.specs.declared.class.Class.{Class}
use Rattle.cl_model.specs.Classes.{
  NoSuchField,
  NoSuchMethod,
  IncompatibleClassChange,
  IllegalAccess,
}
use Rattle.cl_model.specs.Keys.{key_of, descriptor_of}
use Rattle.cl_model.specs.Lineages.{Kin, field_of, method_of}
use Rattle.cl_model.specs.Plans.{CitesClass, member_target, resolve_found, resolve_in}
use Rattle.cl_model.specs.Preparation.{equals_of}
use Rattle.cl_model.specs.States.{Verdict, IsField, IsMethod, BadEntry}
use Rattle.cl_model.specs.Works.{fail}
use Rattle.cl_hierarchy.specs.Rows.{Rowed}
use Rattle.cl_hierarchy.specs.Lineages.{IsRowIn, Lined, kin_of, kin_at, rows_in}
use Rattle.cl_members.specs.Endings.{ending_after}
use Rattle.cl_members.specs.declared.fault.LookupFault.{LookupFault}
use Rattle.cl_members.specs.declared.fault.LookupFault.TheVariants as faults

-- an entry refers to a member of this kind of the class of a name (5.4.3.2 to 5.4.3.4)
pub record IsMemberOf (kind : FieldType → Key → Reference) (entry : Option Reference) (name : Name)
    : Type 0 where
  pub target : FieldType
  pub key : Key
  pub refers : entry ≡ Some (kind target key)
  pub named : member_target target ≡ Some name

-- the entry of d's pool at an index asks for such a member of the class c (5.4.3.2 to 5.4.3.4)
abbrev pub AsksForMember : (FieldType → Key → Reference) → Lined → Lined → ℕ → Type 0
AsksForMember kind d c index =
    IsMemberOf kind (reference (kin_of d).file index) (kin_of c).class.name

-- for a field (5.4.3.2)
abbrev pub AsksField : Lined → Lined → ℕ → Type 0
AsksField d c index = AsksForMember (λ t k. ToField t k) d c index

-- for a method of a class (5.4.3.3)
abbrev pub AsksMethod : Lined → Lined → ℕ → Type 0
AsksMethod d c index = AsksForMember (λ t k. ToMethod t k) d c index

-- for a method of an interface (5.4.3.4)
abbrev pub AsksInterfaceMethod : Lined → Lined → ℕ → Type 0
AsksInterfaceMethod d c index = AsksForMember (λ t k. ToInterfaceMethod t k) d c index

-- a member that was looked up: for which entry of d, through which class c, whose it is, and its
-- flags (5.4.3.2 to 5.4.3.4)
pub record LocatedMember : Type 0 where
  pub d : Lined
  pub c : Lined
  pub index : ℕ
  pub owner : Rowed
  pub key : Key
  pub flags : ℕ

-- the member that a class declares, of the kind that a reference asks for (4.5, 4.6)
abbrev pub declared_by : Reference → Kin → Key → Option Member
declared_by (ToClass t) k key = None
declared_by (ToField t asked) k key = field_of k key
declared_by (ToMethod t asked) k key = method_of k key
declared_by (ToInterfaceMethod t asked) k key = method_of k key

-- the verdict of a reference that is resolved to a member of this class (5.4.3.2 to 5.4.3.4)
abbrev pub verdict_of : Reference → Class → Key → Verdict
verdict_of (ToClass t) owner key = BadEntry
verdict_of (ToField t asked) owner key = IsField owner key
verdict_of (ToMethod t asked) owner key = IsMethod owner key
verdict_of (ToInterfaceMethod t asked) owner key = IsMethod owner key

-- what is found is the end of what the reference asks of c, with its equalities as needs; a fault
-- is its error (5.4.3.2 to 5.4.3.4)
abbrev pub IsFoundAs : Kin → Reference → Kin → Result LocatedMember LookupFault → Type 0
IsFoundAs d r c (Ok f) =
    resolve_in d r c
    ≡ ending_after (equals_of f.key f.owner.class.loader d.class.loader)
    (verdict_of r f.owner.class f.key)
IsFoundAs d r c (Err faults.Memory) = Unit {0}
IsFoundAs d r c (Err faults.NoSuchField) = resolve_in d r c ≡ fail (NoSuchField c.class)
IsFoundAs d r c (Err faults.NoSuchMethod) = resolve_in d r c ≡ fail (NoSuchMethod c.class)
IsFoundAs d r c (Err faults.WrongKind) = resolve_in d r c ≡ fail (IncompatibleClassChange c.class)
IsFoundAs d r c (Err (faults.Inaccessible owner)) = resolve_in d r c ≡ fail (IllegalAccess owner)

-- what is found is of this entry of d, through c, and a class of the lineage of c declares it
-- (5.4.3)
pub record IsFoundOf (d c : Lined) (index : ℕ) (f : LocatedMember) : Type 0 where
  pub from : f.d ≡ d
  pub through : f.c ≡ c
  pub at : f.index ≡ index
  pub owner : IsRowIn (rows_in c) f.owner

-- the class whose member is not accessible is of the lineage of c (5.4.4)
abbrev pub IsDeniedIn : Lined → Result LocatedMember LookupFault → Type 0
IsDeniedIn c (Ok f) = Unit {0}
IsDeniedIn c (Err faults.Memory) = Unit {0}
IsDeniedIn c (Err faults.NoSuchField) = Unit {0}
IsDeniedIn c (Err faults.NoSuchMethod) = Unit {0}
IsDeniedIn c (Err faults.WrongKind) = Unit {0}
IsDeniedIn c (Err (faults.Inaccessible owner)) =
    (row : Rowed) × IsRowIn (rows_in c) row × (owner ≡ row.class)

-- what looking up the member of an entry answers (5.4.3.2 to 5.4.3.4)
pub record LooksUp (d c : Lined) (index : ℕ) (result : Result LocatedMember LookupFault)
    : Type 0 where
  pub found : (r : Reference) → reference (kin_of d).file index ≡ Some r
      → IsFoundAs (kin_of d) r (kin_of c) result
  pub of : IfOk result (IsFoundOf d c index)
  pub denied : IsDeniedIn c result

-- the key of the member that a reference asks for (4.4.2)
abbrev pub asked_key : Reference → Option Key
asked_key (ToClass t) = None
asked_key (ToField t key) = Some key
asked_key (ToMethod t key) = Some key
asked_key (ToInterfaceMethod t key) = Some key

-- the key that an entry of a file asks for, if it is a reference to a member (4.4.2)
abbrev pub key_at : File → ℕ → Option Key
key_at f index = option_and_then asked_key (reference f index)

-- the lookup of what an entry of d asks of c came to a class of its lineage that declares it with
-- these flags: access is left to look at (5.4.3.2 to 5.4.3.4)
pub record Reaches (d c : Lined) (index : ℕ) (symbol : Symbol) (owner : Rowed) (flags : ℕ)
    : Type 0 where
  pub cites : CitesClass (kin_of d).file index (kin_of c).class.name
  pub key : Key
  pub asks : asked_key cites.cited ≡ Some key
  pub keyed : key_of symbol.name symbol.descriptor ≡ key
  pub described : IsSome (descriptor_of symbol.descriptor)
  pub row : IsRowIn (rows_in c) owner
  pub has : option_map (λ m. m.flags) (declared_by cites.cited (kin_at c owner) key) ≡ Some flags
  pub worked :
      resolve_in (kin_of d) cites.cited (kin_of c)
      ≡ resolve_found (kin_of d) (kin_of c) (kin_at c owner)
      (declared_by cites.cited (kin_at c owner) key) key (verdict_of cites.cited owner.class key)

-- what was looked up is what its entry asks for: a class of the lineage of c has it, and it is the
-- end of the reference (5.4.3.2 to 5.4.3.4)
pub record IsLocated (f : LocatedMember) : Type 0 where
  pub cites : CitesClass (kin_of f.d).file f.index (kin_of f.c).class.name
  pub asks : asked_key cites.cited ≡ Some f.key
  pub row : IsRowIn (rows_in f.c) f.owner
  pub has :
      option_map (λ m. m.flags) (declared_by cites.cited (kin_at f.c f.owner) f.key)
      ≡ Some f.flags
  pub found : IsFoundAs (kin_of f.d) cites.cited (kin_of f.c) (Ok f)
