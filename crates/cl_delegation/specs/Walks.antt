-- What a walk over loaders keeps, of those that were asked so far (JVMS SE 8, 5.3.2).
use Rattle.std.specs.Prelude.{◌≡◌, ◌<◌, ℕ, Bool, true, false, if◌then◌else◌, List, [], ◌∷◌, ◌++◌, length, Some, slice_get, fold}
use Rattle.std.specs.List.{AllByRecursion}
use Rattle.cl_classfile.specs.Files.{Name}
use Rattle.cl_model.specs.Probes.{is_in, route_from}
use Rattle.cl_config.specs.declared.order.Order.{Order}
use Rattle.cl_config.specs.declared.order.Order.TheVariants.{ParentFirst, ChildFirst}
use Rattle.cl_config.specs.Views.{Configured}
use Rattle.cl_config.specs.Loaders.{loaders_in}

-- a loader looks at its own content first (5.3.2)
abbrev pub is_child_first : Order → Bool
is_child_first ParentFirst = false
is_child_first ChildFirst = true

-- a list with a number behind it that it lacks
abbrev pub with_one : List ℕ → ℕ → List ℕ
with_one ns x = if is_in ns x then ns else ns ++ x ∷ []

-- a list with those of another behind it that it lacks, in order
abbrev pub added : List ℕ → List ℕ → List ℕ
added ns xs = fold with_one ns xs

-- a loader, where it is wanted
abbrev pub own : Bool → ℕ → List ℕ
own wanted loader = if wanted then loader ∷ [] else []

-- each number is one of these
abbrev pub AllIn : List ℕ → List ℕ → Type 0
AllIn ns ms = AllByRecursion (λ m. is_in ns m ≡ true) ms

-- of each loader whether it was asked
abbrev pub AreMarked : List ℕ → List Bool → Type 0
AreMarked route asked = (n : ℕ) → n < length asked → slice_get asked n ≡ Some (is_in route n)

-- of each loader that is marked all that its search asks was asked
abbrev pub AreDone : Configured → Name → List ℕ → List Bool → Type 0
AreDone c name route done =
    (n : ℕ) → slice_get done n ≡ Some true → AllIn route (route_from (loaders_in c) name n)

-- the marks of all loaders are true of what was asked
pub record IsLoaderWalk (c : Configured) (name : Name) (route : List ℕ) (seen full : List Bool) : Type 0 where
  pub wide : length seen ≡ length c.loaders
  pub deep : length full ≡ length c.loaders
  pub asked : AreMarked route seen
  pub done : AreDone c name route full
