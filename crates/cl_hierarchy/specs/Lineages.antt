-- A class with all that stands above it, as rows (JVMS SE 8, 5.3.5, 5.4.4).
use Rattle.std.specs.Prelude.{◌≡◌, ◌<◌, ℕ, Bool, List, [], ◌∷◌, ◌++◌, Option, Some, None, find, length, reverse}
use Rattle.std.specs.List.{AllByRecursion}
use Rattle.cl_model.specs.declared.class.Class.{Class}
use Rattle.cl_model.specs.Content.{Content}
use Rattle.cl_model.specs.Classes.{same_class}
use Rattle.cl_model.specs.Lineages.{
  Forest,
  Bare,
  Tree,
  IsLineage,
  Kin,
  alone,
  lineage,
  member_accessible,
  once,
  protected_open,
  superclasses,
}
use Rattle.cl_config.specs.Views.{Configured}
use Rattle.cl_delegation.specs.Worlds.{world_of}
use Rattle.cl_hierarchy.specs.Rows.{Rowed}
use Rattle.cl_hierarchy.specs.Trees.{MayComeAfter, SupersBefore, kin_under, kins}

-- under which configuration, the rows of all that stands above a class, and its own (5.3.5)
pub record Lined : Type 0 where
  pub config : Configured
  pub above : List Rowed
  pub own : Rowed

-- all rows, the own one last (5.3.5)
abbrev pub rows_in : Lined → List Rowed
rows_in l = l.above ++ l.own ∷ []

-- the class of a row under all that stands above it (5.3.5)
abbrev pub kin_at : Lined → Rowed → Kin
kin_at l r = kin_under (kins l.above) r

-- the class under all that stands above it: the definitions' tree (5.3.5)
abbrev pub kin_of : Lined → Kin
kin_of l = kin_at l l.own

-- the row of a class among these (5.3.5)
abbrev pub row_of : List Rowed → Class → Option Rowed
row_of rows c = find (λ r. same_class r.class c) rows

-- this row is its class's among these (5.3.5)
abbrev pub IsRowIn : List Rowed → Rowed → Type 0
IsRowIn rows r = row_of rows r.class ≡ Some r

-- each row stands after those of its direct supertypes, and all stand in the order of the lineage,
-- each class once (5.3.5, 5.4)
pub record IsInOrder (l : Lined) : Type 0 where
  pub above : SupersBefore [] l.above
  pub own : MayComeAfter (kins l.above) l.own
  pub ordered : reverse (kin_of l ∷ kins l.above) ≡ lineage (kin_of l)

-- where a content is told, the tree is the lineage of the class in its world (5.3.5)
abbrev pub IsLineageOf : Option Content → Lined → Type 0
IsLineageOf None l = Unit {0}
IsLineageOf (Some content) l = IsLineage (world_of l.config content) (kin_of l)

-- a row's loader is one of the configuration
abbrev pub IsWithinConfig : Configured → Rowed → Type 0
IsWithinConfig config r = r.class.loader < length config.loaders

-- what a lineage keeps (5.3.5, 5.4)
pub record IsLined (told : Option Content) (l : Lined) : Type 0 where
  pub order : IsInOrder l
  pub lineage : IsLineageOf told l
  pub within : AllByRecursion (IsWithinConfig l.config) (rows_in l)

-- ---- questions

-- each class of the list before its superinterfaces, and those before its superclass (5.4.3.2)
abbrev pub upwards : Forest → List Kin
upwards Bare = []
upwards (Tree c f sup ints others) =
    record { class = c; file = f; superclass = sup; interfaces = ints } ∷ upwards ints
    ++ upwards sup ++ upwards others

-- the class and all that stands above it in the order of field lookup, each once (5.4.3.2)
abbrev pub field_order : Kin → List Kin
field_order k = once (upwards (alone k))

-- the superclasses of the class of one of these rows, nearest first (4.1)
abbrev pub above_in : List Rowed → Rowed → List Kin
above_in rows r = superclasses (kin_under (kins rows) r)

-- this tells whether a protected member that owner declares with these flags is open to a class
-- through another (5.4.4)
abbrev pub TellsOpen : Bool → Lined → Class → ℕ → Lined → Type 0
TellsOpen told from owner flags through =
    (k : Kin) → k.class ≡ owner → told ≡ protected_open (kin_of from) k flags (kin_of through)

-- this tells whether a member that owner declares with these flags is accessible to a class through
-- another (5.4.4)
abbrev pub TellsAccess : Bool → Lined → Class → ℕ → Lined → Type 0
TellsAccess told from owner flags through =
    (k : Kin) → k.class ≡ owner → told ≡ member_accessible (kin_of from) k flags (kin_of through)
