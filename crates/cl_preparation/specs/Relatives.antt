-- A class with what stands above it, as preparation looks at them (JVMS SE 8, 5.4.2, 5.4.5).
use Rattle.std.specs.Prelude.{◌≡◌, ◌++◌, ℕ, Bool, false, if◌then◌else◌, List, [], ◌∷◌, find, map, Option, is_some, option_map, slice_get}
use Rattle.std.specs.Option.{option_map_or}
use Rattle.indexmap.specs.IndexSet.{IndexSet}
use Rattle.cl_classfile.specs.Files.{Name, Key, file_of, is_interface, method_of}
use Rattle.cl_model.specs.declared.class.Class.{Class}
use Rattle.cl_model.specs.Lineages.{Kin, Bare, is_offered, superclasses, superinterfaces}
use Rattle.cl_model.specs.Preparation.{equals_with, overrides}
use Rattle.cl_model.specs.States.{Need}
use Rattle.cl_hierarchy.specs.Rows.{Rowed}
use Rattle.cl_hierarchy.specs.Lineages.{Lined, kin_at, kin_of}
use Rattle.cl_preparation.specs.declared.packages.Package.{Package}
use Rattle.cl_preparation.specs.Packages.{AreOpened}
use Rattle.cl_preparation.specs.Walks.{is_overridden, opened_by, overridden_by_package, overrides_by_package}

-- the rows of the superclasses of a lineage's class, nearest first, and of its superinterfaces in
-- preorder (5.4.2)
pub record AreRelatives {A : Type 0} (row : A → Rowed) (l : Lined)
    (above over : List A) : Type 0 where
  pub above_are : map (λ r. kin_at l (row r)) above ≡ superclasses (kin_of l)
  pub over_are : map (λ r. kin_at l (row r)) over ≡ superinterfaces (kin_of l)

-- the class of a row, without what stands above it
abbrev pub bare : Rowed → Kin
bare r = record { class = r.class; file = file_of r.file; superclass = Bare; interfaces = Bare }

-- the class of a row names a superinterface (4.1, interfaces)
abbrev pub names_interfaces : Rowed → Bool
names_interfaces r = is_some (slice_get (file_of r.file).interfaces 0)

-- ---- overriding

-- a test holds of a key, if there is one
abbrev pub holds_of_key : Option Key → (Key → Bool) → Bool
holds_of_key key test = option_map_or test key false

-- the method of this name and this descriptor of a class overrides that of its superclass a, over
-- the classes between; what is no method descriptor is that of none (5.4.5)
abbrev pub overrides_named : Name → Name → Kin → List Kin → Kin → Bool
overrides_named name descriptor c between a =
    holds_of_key (method_of name descriptor) (λ key. overrides key c between a)

-- the method with this key, if it is one, of a class overrides that of a superclass, over the
-- classes between, by their rows alone (5.4.5)
abbrev pub overrides_by_rows : Option Key → Rowed → Rowed → List Rowed → Bool
overrides_by_rows key own above between =
    holds_of_key key (λ k. overrides_by_package k (bare own) (map bare between) (bare above))

-- ---- what a method imposes

-- the step of a walk over superclasses: equalities where the method of this one is overridden, and
-- what it opens (5.4.2, 5.4.5)
pub record Visits {S : Type 0} (key : Key) (opened : List Class) (k : Kin)
    (imposed old new : List Need) (after : IndexSet Package S) : Type 0 where
  pub needs_are : new ≡ old ++ (if is_overridden key opened k then imposed else [])
  pub opened_are : AreOpened after (opened_by key opened k)

-- what is left of a walk: the equalities so far, with those that the rest of the superclasses give,
-- are these (5.4.2, 5.4.5)
pub record Walking {S : Type 0} (key : Key) (loader : ℕ) (opened : IndexSet Package S)
    (needs : List Need) (rest : List Kin) (total : List Need) : Type 0 where
  pub classes : List Class
  pub opened_are : AreOpened opened classes
  pub total_is : needs ++ equals_with key loader (overridden_by_package key classes rest) ≡ total

-- what a method of a class imposes with its superclasses (5.4.2)
abbrev pub of_superclasses : Rowed → List Kin → Key → List Need
of_superclasses own above key =
    if is_interface (file_of own.file)
    then []
    else equals_with key own.class.loader (overridden_by_package key (own.class ∷ []) above)

-- the loader of the first of these that declares a method with this key that is neither private nor
-- static (5.4.2)
abbrev pub first_loader : {A : Type 0} → (A → Rowed) → Key → List A → Option ℕ
first_loader row key rs =
    option_map (λ a. (row a).class.loader) (find (λ a. is_offered key (bare (row a))) rs)
