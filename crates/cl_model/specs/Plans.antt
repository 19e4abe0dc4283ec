-- What each request needs in turn, and how it ends, from the loaders and the contents alone (JVMS SE 8, 5.3 to 5.4.3).
use Rattle.std.specs.Prelude.{◌≡◌, ℕ, zero, suc, ◌+◌, ◌*◌, Bool, true, false, ◌&&◌, ◌==◌, if◌then◌else◌, List, [], ◌∷◌, ◌++◌, length, Option, Some, None, Result, Ok, Err, option_map, option_and_then, count_by, flat_map, sum_by}
use Rattle.std.specs.List.{list_any}
use Rattle.cl_classfile.specs.Files.{Name, File, same_name, element_name, letter, Key, Member, Reference, ToClass, ToField, ToMethod, ToInterfaceMethod, reference, is_interface}
use Rattle.cl_model.specs.Homes.{World, home}
use Rattle.cl_descriptors.specs.declared.types.FieldType.{FieldType}
use Rattle.cl_model.specs.declared.class.Class.{Class}
use Rattle.cl_model.specs.Classes.{class, is_among, Error, ClassNotFound, NoClassDef, ClassCircularity, IncompatibleClassChange, IllegalAccess, NoSuchField, NoSuchMethod, read_class, Above, supers, superclass_of, superinterfaces_of, misfit, class_accessible}
use Rattle.cl_model.specs.Lineages.{Forest, Bare, Tree, Kin, first, lineage, field_of, method_of, member_accessible, lookup_field, lookup_method, lookup_interface_method}
use Rattle.cl_model.specs.Preparation.{equals_of, constraints_of}
use Rattle.cl_model.specs.States.{Need, Entry, Equal, entry_for, Verdict, IsClass, IsArrayOf, IsArrayOfBase, IsField, IsMethod, IsLinked, BadEntry, ArrayMember, Wrong}
use Rattle.cl_model.specs.Works.{Work, Made, Ask, end_with, fail, need, ask, or_fail, unless_wrong, of_result, ◌>>=◌}

-- the record of a loader that is not the definer (5.3.1, 5.3.2)
abbrev pub initiating_needs : ℕ → Name → ℕ → List Need
initiating_needs loader name place = if loader == place then [] else Entry loader name place ∷ []

-- a load through a loader: its home, what deriving there needs, and the initiating record
-- (5.3.2; own choice that loaders which the search passed through get no record)
abbrev pub load_by : World → (Class → Work Kin) → (Class → Error) → ℕ → Name → Work Kin
load_by w derived absent loader name =
    ask loader name >>= λ a. or_fail (absent (class name loader)) (home w loader name)
    >>= λ place. derived (class name place)
    >>= λ k. need (initiating_needs loader name place)
    >>= λ b. end_with k

-- the loads of direct supertypes, each followed by the check that it fits (5.3.5, steps 3 and 4)
abbrev pub loads_above : World → (Class → Work Kin) → Class → List Above → Work Forest
loads_above w derived c [] = end_with Bare
loads_above w derived c (a ∷ others) =
    load_by w derived NoClassDef c.loader a.name
    >>= λ k. unless_wrong (misfit c a.role k.class k.file)
    >>= λ b. loads_above w derived c others
    >>= λ ks. end_with (Tree k.class k.file k.superclass k.interfaces ks)

-- the derivation of a class from its bytes, of the file, what stands above, and its record (5.3.5)
abbrev pub derive_new : World → (Class → Work Kin) → Class → Work Kin
derive_new w derived c =
    of_result (read_class w c)
    >>= λ f. loads_above w derived c (superclass_of f)
    >>= λ sup. loads_above w derived c (superinterfaces_of f)
    >>= λ ints. need (entry_for c.loader c ∷ [])
    >>= λ b. end_with (record { class = c; file = f; superclass = sup; interfaces = ints })

-- the derivation of a class within a height, while those of the list are being derived:
-- one of them that is met again is its own supertype (5.3.5, step 3)
abbrev pub derive : World → ℕ → List Class → Class → Work Kin
derive w zero path c = None
derive w (suc n) path c =
    ask c.loader c.name >>= λ a. elim (is_among path c) [
      | true ↦ fail (ClassCircularity c)
      | false ↦ derive_new w (derive w n (c ∷ path)) c
    ]

-- a load through a loader (5.3.1, 5.3.2)
abbrev pub load : World → ℕ → (Class → Error) → ℕ → Name → Work Kin
load w n absent loader name = load_by w (derive w n []) absent loader name

-- ---- resolution

-- a class, or an array of it (5.4.3.1, 5.3.3)
abbrev pub class_verdict : ℕ → Class → Verdict
class_verdict zero c = IsClass c
class_verdict (suc n) c = IsArrayOf (suc n) c

-- the class whose member is asked for, if it is no array (5.4.3.2, 5.4.3.3; own choice for arrays)
abbrev pub member_target : FieldType → Option Name
member_target t = elim (element_name t.base) [
  | [] ↦ None
  | name ∷ more ↦ if t.dims == 0 then Some name else None
]

-- the class that a reference names, if it names one (5.4.3.1 to 5.4.3.4)
abbrev pub class_named : Reference → Option Name
class_named (ToClass t) = first (element_name t.base)
class_named (ToField t key) = member_target t
class_named (ToMethod t key) = member_target t
class_named (ToInterfaceMethod t key) = member_target t

-- the entry at an index of a class's pool names the class of this name (5.4.3.1 to 5.4.3.4)
pub record CitesClass (f : File) (index : ℕ) (name : Name) : Type 0 where
  pub cited : Reference
  pub found : reference f index ≡ Some cited
  pub names : class_named cited ≡ Some name

-- the error of a class c that is not accessible to d (5.4.4)
abbrev pub inaccessible : Kin → Kin → Option Error
inaccessible d c = if class_accessible c.file.flags c.class d.class then None else Some
    (IllegalAccess c.class)

-- the flags of a member that was found (4.5, 4.6)
abbrev pub flags_of : Option Member → ℕ
flags_of None = 0
flags_of (Some m) = m.flags

-- what was found through c is accessible to d, and its classes are equal in both loaders (5.4.3.2, 5.4.3.3)
abbrev pub resolve_found : Kin → Kin → Kin → Option Member → Key → Verdict → Work Verdict
resolve_found d c owner found key verdict =
    unless_wrong (if member_accessible d owner (flags_of found) c then None else Some
    (IllegalAccess owner.class))
    >>= λ a. need (equals_of key owner.class.loader d.class.loader)
    >>= λ b. end_with verdict

-- a field of c: lookup, then access and equality (5.4.3.2)
abbrev pub resolve_field : Kin → Key → Kin → Work Verdict
resolve_field d key c =
    or_fail (NoSuchField c.class) (lookup_field c key)
    >>= λ owner. resolve_found d c owner (field_of owner key) key (IsField owner.class key)

-- an interface's method is asked of an interface, another's of a class (5.4.3.3, 5.4.3.4)
abbrev pub resolve_method : Bool → Kin → Key → Kin → Work Verdict
resolve_method interface d key c =
    unless_wrong (if interface then (if is_interface c.file then None else Some
    (IncompatibleClassChange c.class))
    else (if is_interface c.file then Some (IncompatibleClassChange c.class) else None))
    >>= λ a. or_fail (NoSuchMethod c.class) (if interface then lookup_interface_method c key else
    lookup_method c key)
    >>= λ owner. resolve_found d c owner (method_of owner key) key (IsMethod owner.class key)

-- what d's reference is resolved to where the class that it names is c, and is accessible (5.4.3.1 to 5.4.3.4)
abbrev pub resolve_in : Kin → Reference → Kin → Work Verdict
resolve_in d (ToClass t) c = end_with (class_verdict t.dims c.class)
resolve_in d (ToField t key) c = resolve_field d key c
resolve_in d (ToMethod t key) c = resolve_method false d key c
resolve_in d (ToInterfaceMethod t key) c = resolve_method true d key c

-- what follows the load of the class c that d's reference names: access, and then the reference (5.4.3.1 to 5.4.3.4)
abbrev pub through : Kin → Reference → Kin → Work Verdict
through d r c = unless_wrong (inaccessible d c) >>= λ a. resolve_in d r c

-- what a reference that names no class is resolved to (5.4.3.1; own choice for members of arrays)
abbrev pub nameless : Reference → Verdict
nameless (ToClass t) = IsArrayOfBase t.dims (letter t.base)
nameless (ToField t key) = ArrayMember
nameless (ToMethod t key) = ArrayMember
nameless (ToInterfaceMethod t key) = ArrayMember

-- what a reference of d is resolved to, by the class that it names, if it names one (5.4.3.1 to 5.4.3.4)
abbrev pub resolve_named : World → ℕ → Kin → Reference → Option Name → Work Verdict
resolve_named w n d r None = end_with (nameless r)
resolve_named w n d r (Some name) = load w n NoClassDef d.class.loader name >>= λ c. through d r c

-- what a reference of d is resolved to (5.4.3.1 to 5.4.3.4)
abbrev pub resolve_reference : World → ℕ → Kin → Reference → Work Verdict
resolve_reference w n d r = resolve_named w n d r (class_named r)

-- the resolution of an entry of d's constant pool (5.4.3)
abbrev pub resolve : World → ℕ → Kin → ℕ → Work Verdict
resolve w n d i = elim (reference d.file i) [
  | None ↦ end_with BadEntry
  | Some r ↦ resolve_reference w n d r
]

-- ---- requests

-- what a script asks for: to load a class through a loader, and then to resolve an entry of its pool, or to link it (5.3, 5.4, 5.4.3)
pub data Request : Type 0 where
  Load : (loader : ℕ) → (name : Name) → Request
  Resolve : (loader : ℕ) → (name : Name) → (index : ℕ) → Request
  Link : (loader : ℕ) → (name : Name) → Request

-- the class that a request loads (5.3)
abbrev pub loaded_by : Request → Ask
loaded_by (Load loader name) = record { loader = loader; name = name }
loaded_by (Resolve loader name i) = record { loader = loader; name = name }
loaded_by (Link loader name) = record { loader = loader; name = name }

-- what follows once the class is loaded (5.4, 5.4.3)
abbrev pub go_on_with : World → ℕ → Request → Kin → Work Verdict
go_on_with w n (Load loader name) k = end_with (IsClass k.class)
go_on_with w n (Resolve loader name i) k = resolve w n k i
go_on_with w n (Link loader name) k = need (flat_map constraints_of (lineage k)) >>= λ a. end_with
    (IsLinked k.class)

-- a request's needs: those of its own load, and those that follow; the class that it reaches, and its end (5.3 to 5.4.3)
pub record Plan : Type 0 where
  pub own : List Need
  pub more : List Need
  pub asked : List Ask
  pub reached : Option Class
  pub ends : Verdict

-- the verdict that a resolution ends in (5.4.3)
abbrev pub ending_verdict : Result Verdict Error → Verdict
ending_verdict (Ok v) = v
ending_verdict (Err e) = Wrong e

-- the plan of a load that ends in a class, and of what follows it (5.3 to 5.4.3)
abbrev pub plan_after : Made Kin → Kin → Made Verdict → Plan
plan_after m k r = record {
  own = m.needs;
  more = r.needs;
  asked = m.asked
      ++ r.asked;
  reached = Some k.class;
  ends = ending_verdict r.ends;
}

-- the plan of a request, from what its load made (5.3 to 5.4.3)
abbrev pub plan_from : World → ℕ → Request → Made Kin → Option Plan
plan_from w n q m = elim (m.ends) [
  | Err e ↦ Some
      (record { own = m.needs; more = []; asked = m.asked; reached = None; ends = Wrong e })
  | Ok k ↦ option_map (plan_after m k) (go_on_with w n q k)
]

-- the plan of a request, where a height suffices (5.3 to 5.4.3)
abbrev pub plan : World → ℕ → Request → Option Plan
plan w n q = option_and_then (plan_from w n q)
    (load w n ClassNotFound (loaded_by q).loader (loaded_by q).name)

-- all needs of a plan (5.3 to 5.4.3)
abbrev pub plan_needs : Plan → List Need
plan_needs p = p.own ++ p.more

-- ---- cost

-- the same loader and name (5.3)
abbrev pub same_ask : Ask → Ask → Bool
same_ask a b = (a.loader == b.loader) && same_name a.name b.name

-- each at its last place alone
abbrev pub distinct : List Ask → List Ask
distinct [] = []
distinct (a ∷ others) = if list_any (same_ask a) others then distinct others else a
    ∷ distinct others

-- the home of what was asked, as what is asked of that home (5.3.2)
abbrev pub asked_at_home : World → Ask → List Ask
asked_at_home w a = elim (home w a.loader a.name) [
  | None ↦ []
  | Some place ↦ record { loader = place; name = a.name } ∷ []
]

-- how many supertypes a class has that has a file (5.3.5, steps 3 and 4)
abbrev pub edges_of : World → Ask → ℕ
edges_of w a = elim (read_class w (class a.name a.loader)) [
  | Err e ↦ 0
  | Ok f ↦ length (supers f)
]

-- the need is an equality (5.3.4)
abbrev pub is_equal : Need → Bool
is_equal (Entry loader name place) = false
is_equal (Equal name a b) = true

-- each loader and name that a plan asks, and each home with the name, once (5.3.2)
abbrev pub nodes_of : World → Plan → List Ask
nodes_of w p = distinct (p.asked ++ flat_map (asked_at_home w) p.asked)

-- the homes alone
abbrev pub homes_of : World → Plan → List Ask
homes_of w p = distinct (flat_map (asked_at_home w) p.asked)

-- a bound on the steps of a request
abbrev pub cost : World → Plan → ℕ
cost w p =
    3 * length (nodes_of w p)
    + sum_by (edges_of w) (homes_of w p)
    + count_by is_equal (plan_needs p)
    + 7
