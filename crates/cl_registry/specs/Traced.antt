-- Rows and lineages that stand in the tables of a registry (JVMS SE 8, 5.3, 5.3.5).
use Rattle.std.specs.Prelude.{◌≡◌}
use Rattle.std.specs.List.{AllByRecursion}
use Rattle.cl_model.specs.declared.class.Class.{Class}
use Rattle.cl_model.specs.States.{IsRecorded}
use Rattle.cl_hierarchy.specs.Rows.{Rowed}
use Rattle.cl_hierarchy.specs.Lineages.{IsRowIn, Lined, rows_in}
use Rattle.cl_registry.specs.Tables.{Shown, state_of, records_of, IsPlaced}

-- a row is its class's among the rows, the class is recorded, and so are its direct supertypes, by its loader (5.3, 5.3.5)
pub record IsRowOf (x : Shown) (r : Rowed) : Type 0 where
  pub recorded : IsRecorded (state_of x) r.class
  pub kept : IsRowIn x.rows r
  pub placed : IsPlaced (records_of x) r

-- a lineage is that of a class, under this configuration, and each of its rows stands in the tables (5.3, 5.3.5)
pub record IsTraced (x : Shown) (c : Class) (l : Lined) : Type 0 where
  pub config : l.config ≡ x.config
  pub class : l.own.class ≡ c
  pub rows : AllByRecursion (IsRowOf x) (rows_in l)
