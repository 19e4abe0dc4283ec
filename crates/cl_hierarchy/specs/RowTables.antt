-- Rows in the order in which their classes were defined, and what is made of them
-- (JVMS SE 8, 5.3.5).
use Rattle.std.specs.Prelude.{
  ◌≡◌,
  ℕ,
  List,
  [],
  ◌∷◌,
  ◌++◌,
  Option,
  Some,
  None,
  IsSome,
  Result,
  Ok,
  Err,
}
use Rattle.std.specs.List.{AllByRecursion, AllZip}
use Rattle.cl_classfile.specs.Files.{file_of}
use Rattle.cl_model.specs.declared.class.Class.{Class}
use Rattle.cl_model.specs.Content.{Content}
use Rattle.cl_model.specs.Classes.{class, Above, HasFile, supers}
use Rattle.cl_config.specs.Views.{Configured}
use Rattle.cl_delegation.specs.Searches.{LeadsTo}
use Rattle.cl_delegation.specs.Worlds.{world_of}
use Rattle.cl_hierarchy.specs.Rows.{FitsAs, Rowed}
use Rattle.cl_model.specs.Lineages.{IsLineage, Kin}
use Rattle.cl_hierarchy.specs.Trees.{SupersBefore, kin_named, kins}
use Rattle.cl_hierarchy.specs.Lineages.{IsRowIn, IsWithinConfig, Lined, kin_of, row_of, rows_in}
use Rattle.cl_hierarchy.specs.declared.making.LineageFault.{LineageFault}
use Rattle.cl_hierarchy.specs.declared.making.LineageFault.TheVariants.{Memory, Unknown}

-- a direct supertype of a class, which this loader defined, stands among earlier rows, and fits;
-- the search for its name led there (5.3.1, 5.3.2; 5.3.5, steps 3 and 4)
pub record StandsAbove (told : Option Content) (config : Configured) (earlier : List Rowed)
    (c : Class) (a : Above) (definer : ℕ) : Type 0 where
  pub row : Rowed
  pub stands : row_of earlier (class a.name definer) ≡ Some row
  pub fits : FitsAs c a row
  pub found : LeadsTo told config c.loader a.name (Some definer)

-- these supertypes of a class, which these loaders defined, one each (5.3.5, steps 3 and 4)
abbrev pub StandAbove : Option Content → Configured → List Rowed → Class → List Above → List ℕ
    → Type 0
StandAbove told config earlier c others definers =
    AllZip (StandsAbove told config earlier c) others definers

-- where a content is told, a row has its class's file (5.3.5, step 2)
abbrev pub HasItsFile : Option Content → Configured → Rowed → Type 0
HasItsFile None config r = Unit {0}
HasItsFile (Some content) config r = HasFile (world_of config content) r.class (file_of r.file)

-- a row may stand after these: its class is new, and its direct supertypes stand among them
-- (5.3.5, steps 2 to 5)
pub record IsRowAfter (told : Option Content) (config : Configured) (earlier : List Rowed)
    (r : Rowed) : Type 0 where
  pub is_new : row_of earlier r.class ≡ None
  pub within : IsWithinConfig config r
  pub above : StandAbove told config earlier r.class (supers (file_of r.file)) r.definers
  pub has_file : HasItsFile told config r

-- each of these rows may stand where it stands, after the earlier ones (5.3.5)
abbrev pub AreRowsAfter : Option Content → Configured → List Rowed → List Rowed → Type 0
AreRowsAfter told config earlier [] = Unit {0}
AreRowsAfter told config earlier (r ∷ rs) =
    IsRowAfter told config earlier r × AreRowsAfter told config (earlier ++ r ∷ []) rs

-- rows in the order in which their classes were defined, each class once and after its direct
-- supertypes (5.3.5)
abbrev pub AreRows : Option Content → Configured → List Rowed → Type 0
AreRows told config rows = AreRowsAfter told config [] rows

-- the lineage of a class is what these rows make of it: its rows are these classes' own (5.3.5)
pub record IsMadeOf (config : Configured) (rows : List Rowed) (c : Class) (l : Lined) : Type 0 where
  pub config_is : l.config ≡ config
  pub own_is : row_of rows c ≡ Some l.own
  pub kin_is : kin_named (kins rows) c ≡ Some (kin_of l)
  pub rows_are : AllByRecursion (IsRowIn rows) (rows_in l)

-- the lineage of a class from these rows; a class without a row is unknown, and no other, and
-- memory runs out for no such class (5.3.5)
abbrev pub Makes : Configured → List Rowed → Class → Result Lined LineageFault → Type 0
Makes config rows c (Ok l) = IsMadeOf config rows c l
Makes config rows c (Err Unknown) = row_of rows c ≡ None
Makes config rows c (Err Memory) = IsSome (row_of rows c)

-- ---- laws

-- a row that may stand after such rows may join them (5.3.5)
abbrev pub RowsGrow : Type 0
RowsGrow =
    (told : Option Content) (config : Configured) (rows : List Rowed) (r : Rowed)
    → AreRows told config rows → IsRowAfter told config rows r
    → AreRows told config (rows ++ r ∷ [])

-- each row stands after those of its direct supertypes (5.3.5)
abbrev pub RowsStandInOrder : Type 0
RowsStandInOrder =
    (told : Option Content) (config : Configured) (rows : List Rowed) → AreRows told config rows
    → SupersBefore [] rows

-- where a content is told, the tree of each class is its lineage (5.3.5)
abbrev pub RowsMakeLineages : Type 0
RowsMakeLineages =
    (config : Configured) (content : Content) (rows : List Rowed) (c : Class) (k : Kin)
    → AreRows (Some content) config rows → kin_named (kins rows) c ≡ Some k
    → IsLineage (world_of config content) k
