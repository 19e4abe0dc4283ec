-- A good class with all that stands above it, and what it declares and inherits (JVMS SE 8, 5.3.5, 5.4.3 to 5.4.5).
use Rattle.std.specs.Prelude.{◌≡◌, ℕ, Bool, true, false, ◌&&◌, ◌||◌, not, if◌then◌else◌, List, [], ◌∷◌, ◌++◌, map, Option, Some, None, find, filter, is_some}
use Rattle.std.specs.Option.{option_or}
use Rattle.std.specs.List.{list_any}
use Rattle.cl_classfile.specs.Files.{File, Key, Member, member, is_public, is_private, is_protected, is_static, is_abstract}
use Rattle.cl_model.specs.declared.class.Class.{Class}
use Rattle.cl_model.specs.Homes.{World, home}
use Rattle.cl_model.specs.Once.{firsts}
use Rattle.cl_model.specs.Classes.{same_class, is_among, same_package, Above, HasFile, misfit, superclass_of, superinterfaces_of}

-- a list of classes, each with its superclass (of one class or none) and its direct superinterfaces (5.3.5)
pub data Forest : Type 0 where
  Bare : Forest
  Tree : (class : Class) → (file : File) → (superclass : Forest) → (interfaces : Forest)
      → (others : Forest) → Forest

-- one class of them (5.3.5)
pub record Kin : Type 0 where
  pub class : Class
  pub file : File
  pub superclass : Forest
  pub interfaces : Forest

-- a class s of file f is a direct supertype of c, which fits (5.3.5, steps 3 and 4)
pub record IsAbove (w : World) (c : Class) (a : Above) (s : Class) (f : File) : Type 0 where
  pub named : s.name ≡ a.name
  pub found : home w c.loader a.name ≡ Some s.loader
  pub has_file : HasFile w s f
  pub fits : misfit c a.role s f ≡ None

-- the list has these direct supertypes of c in order, each with all that stands above it (5.3.5, steps 3 and 4)
abbrev pub StandsFor : World → Class → Forest → List Above → Type 0
StandsFor w c Bare [] = Unit {0}
StandsFor w c Bare (a ∷ more) = ⊥
StandsFor w c (Tree s f sup ints others) [] = ⊥
StandsFor w c (Tree s f sup ints others) (a ∷ more) =
    IsAbove w c a s f × StandsFor w s sup (superclass_of f)
    × StandsFor w s ints (superinterfaces_of f) × StandsFor w c others more

-- a class with its own file and its own lineage (5.3.5)
pub record IsLineage (w : World) (k : Kin) : Type 0 where
  pub has_file : HasFile w k.class k.file
  pub above : StandsFor w k.class k.superclass (superclass_of k.file)
  pub over : StandsFor w k.class k.interfaces (superinterfaces_of k.file)

-- the class, its file and what stands above it, alone
abbrev pub alone : Kin → Forest
alone k = Tree k.class k.file k.superclass k.interfaces Bare

-- the classes of these, in order
abbrev pub classes : List Kin → List Class
classes ks = map (λ k. k.class) ks

-- the first of the list and its superclasses, nearest first (4.1; 5.3.5, step 3)
abbrev pub upward : Forest → List Kin
upward Bare = []
upward (Tree c f sup ints others) = record {
  class = c;
  file = f;
  superclass = sup;
  interfaces = ints;
} ∷ upward sup

-- the proper superclasses, nearest first (4.1, super_class)
abbrev pub superclasses : Kin → List Kin
superclasses k = upward k.superclass

-- the classes of the list where wanted, each followed by its superinterfaces, then those of the superclass (own choice of order, 5.4.3.3)
abbrev pub preorder : Forest → Bool → List Kin
preorder Bare wanted = []
preorder (Tree c f sup ints others) wanted =
    (if wanted then record { class = c; file = f; superclass = sup; interfaces = ints }
    ∷ [] else [])
    ++ preorder ints true ++ preorder sup false ++ preorder others wanted

-- each class at its first place alone, after those that were seen
abbrev pub once_after : List Class → List Kin → List Kin
once_after seen ks = firsts (λ k. k.class) is_among seen ks

-- each class at its first place alone, from the front
abbrev pub once : List Kin → List Kin
once ks = once_after [] ks

-- the direct and indirect superinterfaces in preorder, each once (5.4.3.3)
abbrev pub superinterfaces : Kin → List Kin
superinterfaces k = once (preorder k.interfaces true ++ preorder k.superclass false)

-- the classes of the list, each after its superclass's and its superinterfaces' lineages (own choice of order, 5.4)
abbrev pub postorder : Forest → List Kin
postorder Bare = []
postorder (Tree c f sup ints others) =
    postorder sup ++ postorder ints ++ record {
      class = c;
      file = f;
      superclass = sup;
      interfaces = ints;
    } ∷ postorder others

-- the lineage in the order in which it is prepared, each class once (5.4)
abbrev pub lineage : Kin → List Kin
lineage k = once (postorder (alone k))

-- a class has another as proper superclass (4.1, super_class)
abbrev pub is_subclass : Kin → Class → Bool
is_subclass k c = is_among (classes (superclasses k)) c

-- the field with this key that a class declares (4.5)
abbrev pub field_of : Kin → Key → Option Member
field_of k key = member k.file.fields key

-- the method with this key that a class declares (4.6)
abbrev pub method_of : Kin → Key → Option Member
method_of k key = member k.file.methods key

-- ---- access

-- a protected member of owner, declared with these flags, is open to d through the class c (5.4.4)
abbrev pub protected_open : Kin → Kin → ℕ → Kin → Bool
protected_open d owner flags c =
    (same_class owner.class d.class || is_subclass d owner.class)
    && (is_static flags || same_class c.class d.class || is_subclass c d.class
    || is_subclass d c.class)

-- a member of owner with these flags is accessible to d through the class c (5.4.4)
abbrev pub member_accessible : Kin → Kin → ℕ → Kin → Bool
member_accessible d owner flags c =
    is_public flags
    || is_protected flags && protected_open d owner flags c
    || not (is_private flags) && same_package owner.class d.class
    || is_private flags && same_class owner.class d.class

-- ---- lookup: the class that declares

-- in the class, its superinterfaces in file order, its superclass; and on through the list (own choice of file order, 5.4.3.2)
abbrev pub field_among : Key → Forest → Option Kin
field_among key Bare = None
field_among key (Tree c f sup ints others) =
    if is_some (member f.fields key)
    then Some (record { class = c; file = f; superclass = sup; interfaces = ints })
    else option_or (field_among key ints) (option_or (field_among key sup) (field_among key others))

-- field lookup (5.4.3.2)
abbrev pub lookup_field : Kin → Key → Option Kin
lookup_field k key = field_among key (alone k)

-- a method's flags pass a test, if it is declared (4.6)
abbrev pub if_declared : Option Member → (ℕ → Bool) → Bool
if_declared None test = false
if_declared (Some m) test = test m.flags

-- neither private nor static (5.4.3.3, 5.4.5)
abbrev pub is_virtual : ℕ → Bool
is_virtual flags = not (is_private flags) && not (is_static flags)

-- what a file declares with a key, if it does, is offered to subtypes: neither private nor static (5.4.3.3, 5.4.5)
abbrev pub offers : Option Member → Bool
offers declared = if_declared declared is_virtual

-- it is not abstract (5.4.3.3, step 3)
abbrev pub implements : Option Member → Bool
implements declared = if_declared declared (λ x. not (is_abstract x))

-- it is public, and a method of instances: not static (5.4.3.4)
abbrev pub has_public : Option Member → Bool
has_public declared = if_declared declared (λ x. is_public x && not (is_static x))

-- a class or an interface offers the method (5.4.3.3, 5.4.5)
abbrev pub is_offered : Key → Kin → Bool
is_offered key k = offers (method_of k key)

-- the superinterfaces that offer a method, in preorder (5.4.3.3)
abbrev pub offering_superinterfaces : Kin → Key → List Kin
offering_superinterfaces k key = filter (is_offered key) (superinterfaces k)

-- no other of them is a subinterface of this one (5.4.3.3; own choice that all that are offered are 'other' ones)
abbrev pub is_maximal : List Kin → Kin → Bool
is_maximal ks k = not (list_any (λ other. is_among (classes (superinterfaces other)) k.class) ks)

-- the maximally specific ones (5.4.3.3)
abbrev pub maximally_specific : Kin → Key → List Kin
maximally_specific k key = filter (is_maximal (offering_superinterfaces k key))
    (offering_superinterfaces k key)

-- it declares it, and it is not abstract (5.4.3.3, step 3)
abbrev pub is_default : Key → Kin → Bool
is_default key k = implements (method_of k key)

-- the first: 'arbitrarily chosen' is read so (own choice, 5.4.3.3)
abbrev pub first : {A : Type 0} → List A → Option A
first [] = None
first (x ∷ xs) = Some x

-- the one, if there is exactly one (5.4.3.3, step 3)
abbrev pub only : {A : Type 0} → List A → Option A
only [] = None
only (x ∷ []) = Some x
only (x ∷ y ∷ xs) = None

-- the one maximally specific method that is not abstract, else the first that is offered (5.4.3.3, step 3)
abbrev pub from_superinterfaces : Kin → Key → Option Kin
from_superinterfaces k key = option_or (only (filter (is_default key) (maximally_specific k key)))
    (first (offering_superinterfaces k key))

-- method lookup (5.4.3.3)
abbrev pub lookup_method : Kin → Key → Option Kin
lookup_method k key = option_or (find (λ a. is_some (method_of a key)) (k ∷ superclasses k))
    (from_superinterfaces k key)

-- it declares a public method that is not static (5.4.3.4)
abbrev pub is_public_instance : Key → Kin → Bool
is_public_instance key k = has_public (method_of k key)

-- interface method lookup: the one superclass of an interface is `java/lang/Object` (5.4.3.4)
abbrev pub lookup_interface_method : Kin → Key → Option Kin
lookup_interface_method k key =
    option_or (find (λ a. is_some (method_of a key)) (k ∷ []))
    (option_or (find (is_public_instance key) (superclasses k)) (from_superinterfaces k key))
