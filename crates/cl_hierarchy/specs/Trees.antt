-- The tree that rows make: each class under its direct supertypes
-- (JVMS SE 8, 5.3.5, steps 3 and 4).
use Rattle.std.specs.Prelude.{
  ◌≡◌,
  ℕ,
  true,
  List,
  [],
  ◌∷◌,
  Option,
  Some,
  None,
  drop,
  find,
  fold,
  is_some,
  length,
}
use Rattle.std.specs.List.{AllByRecursion}
use Rattle.cl_classfile.specs.Files.{file_of}
use Rattle.cl_model.specs.declared.class.Class.{Class}
use Rattle.cl_model.specs.Classes.{same_class, superclass_of, superinterfaces_of}
use Rattle.cl_model.specs.Lineages.{Forest, Bare, Tree, Kin}
use Rattle.cl_hierarchy.specs.Frames.{accepted_of}
use Rattle.cl_hierarchy.specs.Rows.{Rowed}

-- the class of a row's superclass, if it has one (5.3.5, step 3)
abbrev pub superclass_in : Rowed → List Class
superclass_in r = accepted_of (superclass_of (file_of r.file)) r.definers

-- the loaders of its direct superinterfaces, in file order (5.3.5, step 4)
abbrev pub interface_definers : Rowed → List ℕ
interface_definers r = drop (length (superclass_of (file_of r.file))) r.definers

-- the classes of its direct superinterfaces, in file order (5.3.5, step 4)
abbrev pub interfaces_in : Rowed → List Class
interfaces_in r = accepted_of (superinterfaces_of (file_of r.file)) (interface_definers r)

-- the one of these with this class
abbrev pub kin_named : List Kin → Class → Option Kin
kin_named known c = find (λ k. same_class c k.class) known

-- a class in front of others, if there is one
abbrev pub in_front : Option Kin → Forest → Forest
in_front None others = others
in_front (Some k) others = Tree k.class k.file k.superclass k.interfaces others

-- these classes, each with what stands above it
abbrev pub forest : List Kin → List Class → Forest
forest known [] = Bare
forest known (c ∷ cs) = in_front (kin_named known c) (forest known cs)

-- a row's class under its direct supertypes (5.3.5, steps 3 and 4)
abbrev pub kin_under : List Kin → Rowed → Kin
kin_under known r = record {
  class = r.class;
  file = file_of r.file;
  superclass = forest known (superclass_in r);
  interfaces = forest known (interfaces_in r);
}

-- the classes of these rows, the last first, each under those before it
abbrev pub kins_after : List Kin → List Rowed → List Kin
kins_after known rows = fold (λ ks r. kin_under ks r ∷ ks) known rows

-- the classes of rows, the last first
abbrev pub kins : List Rowed → List Kin
kins rows = kins_after [] rows

-- each of these classes is among those that are known
abbrev pub AllKnown : List Kin → List Class → Type 0
AllKnown known cs = AllByRecursion (λ (c : Class). is_some (kin_named known c) ≡ true) cs

-- a row may stand after these: its class is new, and its direct supertypes are known
-- (5.3.5, steps 3 and 4)
pub record MayComeAfter (known : List Kin) (r : Rowed) : Type 0 where
  pub is_new : kin_named known r.class ≡ None
  pub superclass : AllKnown known (superclass_in r)
  pub interfaces : AllKnown known (interfaces_in r)

-- each row's class is new, and stands after its direct supertypes (5.3.5, steps 3 and 4)
abbrev pub SupersBefore : List Kin → List Rowed → Type 0
SupersBefore known [] = Unit {0}
SupersBefore known (r ∷ rs) = MayComeAfter known r × SupersBefore (kin_under known r ∷ known) rs
