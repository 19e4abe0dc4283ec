-- Rows by their classes.
use Rattle.std.specs.Prelude.{◌≡◌, List}
use Rattle.std.specs.Map.{lookup}
use Rattle.std.specs.Option.{option_map}
use Rattle.cl_model.specs.declared.class.Class.{Class}
use Rattle.cl_model.specs.Classes.{same_class}
use Rattle.cl_hierarchy.specs.Rows.{Rowed}
use Rattle.cl_hierarchy.specs.Lineages.{row_of}

-- a table has the row of each class of these, and no other
abbrev pub IsRowIndexOf : {A : Type 0} → (A → Rowed) → List (Class × A) → List Rowed → Type 0
IsRowIndexOf row entries rows =
    (c : Class) → option_map row (lookup (same_class c) entries) ≡ row_of rows c
