-- The values of an array beside the items that they stand for.
use Rattle.std.proofs.Common.{◌≡◌, suc, ◌&&◌, is_some, List, [], ◌∷◌, length, refl, ap}
use Rattle.std.specs.List.{list_all}
use Rattle.toml.specs.Data.{as_table}
use Rattle.toml.specs.View.{view, items_view}
use Rattle.toml.specs.declared.value.Value.{Value}
use Rattle.cl_config.specs.Configs.{count, are_tables}

pub count_is : (vs : List Value) → count (items_view vs) ≡ length vs
count_is [] = refl
count_is (v ∷ vs) = ap suc (count_is vs)

pub tables_are : (vs : List Value) → are_tables (items_view vs) ≡ list_all (λ v. is_some (as_table (view v))) vs
tables_are [] = refl
tables_are (v ∷ vs) = ap (λ b. is_some (as_table (view v)) && b) (tables_are vs)
