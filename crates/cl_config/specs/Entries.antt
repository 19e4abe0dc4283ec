-- Which tables are loaders, and what they say, each parent and import still by its name
-- (JVMS SE 8, 5.3.2).
use Rattle.std.specs.Prelude.{
  ℕ,
  Bool,
  not,
  is_some,
  ◌&&◌,
  ◌||◌,
  ◌==◌,
  nat_le,
  nat_lt,
  if◌then◌else◌,
  List,
  [],
  ◌∷◌,
  length,
  map,
  codes,
  Option,
  Some,
  None,
  unwrap_or,
  Result,
  Ok,
  Err,
}
use Rattle.std.specs.List.{list_all}
use Rattle.std.specs.Option.{ok_or}
use Rattle.toml.specs.Data.{Data, as_array, as_str, Items, get_member}
use Rattle.cl_config.specs.declared.fault.ConfigFault.{ConfigFault}
use Rattle.cl_config.specs.declared.fault.ConfigFault.TheVariants.{BadLoader, TooMany}
use Rattle.cl_config.specs.declared.order.Order.{Order}
use Rattle.cl_config.specs.Steps.{◌>>=◌}
use Rattle.cl_config.specs.Fields.{
  is_one_of,
  table_of,
  text_of,
  optional_text,
  name_of,
  order_of,
  each_from,
}
use Rattle.cl_config.specs.Views.{loader_named}
use Rattle.cl_config.specs.declared.limits.TheConstants.{MOST_IMPORTS, MOST_LOADER_NAME_BYTES, MOST_PARENTS}

-- an import: what the names begin with, and the name of the loader that has them (5.3.2)
pub record EntryImport : Type 0 where
  pub prefix : List ℕ
  pub from : List ℕ

-- what a table says of a loader
pub record Entry : Type 0 where
  pub name : List ℕ
  pub dir : List ℕ
  pub parents : List (List ℕ)
  pub order : Order
  pub imports : List EntryImport

-- the keys of an import
abbrev pub import_keys : List (List ℕ)
import_keys = codes "prefix" ∷ codes "from" ∷ []

-- the keys of a loader
abbrev pub loader_keys : List (List ℕ)
loader_keys = codes "name" ∷ codes "dir" ∷ codes "parent" ∷ codes "parents" ∷ codes "order"
    ∷ codes "imports" ∷ []

-- an import, of the loader whose fault this is
unfoldable pub import_at : ConfigFault → Data → Result EntryImport ConfigFault
import_at wrong d = do
  ms ← table_of wrong (is_one_of import_keys) d
  prefix ← name_of wrong (get_member (codes "prefix") ms)
  from ← text_of wrong (get_member (codes "from") ms)
  Ok (record { prefix = prefix; from = from })

-- the imports, none where they are left out
abbrev pub imports_at : ConfigFault → Option Data → Result (List EntryImport) ConfigFault
imports_at wrong None = Ok []
imports_at wrong (Some d) =
    ok_or (as_array d) wrong >>= λ ds. each_from (λ before. import_at wrong) [] ds

-- the name of a parent, none of those before it
abbrev pub parent_at : ConfigFault → List (List ℕ) → Data → Result (List ℕ) ConfigFault
parent_at wrong before d =
    ok_or (as_str d) wrong >>= λ name.
    if is_some (loader_named before name) then Err wrong else Ok name

-- the parents: the one, or those of an array, none twice; not under both keys (5.3.2)
abbrev pub parents_at : ConfigFault → Option (List ℕ) → Option Data
    → Result (List (List ℕ)) ConfigFault
parents_at wrong None None = Ok []
parents_at wrong (Some name) None = Ok (name ∷ [])
parents_at wrong None (Some d) = ok_or (as_array d) wrong >>= λ ds. each_from (parent_at wrong) [] ds
parents_at wrong (Some name) (Some d) = Err wrong

-- a byte of a loader's name
abbrev pub is_name_byte : ℕ → Bool
is_name_byte b =
    (nat_le 0x41 b && nat_le b 0x5a) || (nat_le 0x61 b && nat_le b 0x7a)
    || (nat_le 0x30 b && nat_le b 0x39) || (b == 0x5f) || (b == 0x2d)

-- a name that no earlier loader has
abbrev pub is_new_name : List (List ℕ) → List ℕ → Bool
is_new_name names name =
    nat_le 1 (length name) && nat_le (length name) MOST_LOADER_NAME_BYTES && list_all is_name_byte name
    && not (is_some (loader_named names name))

-- a loader, where it has not too many parents or imports
abbrev pub unless_many : Entry → Result Entry ConfigFault
unless_many entry =
    if nat_lt MOST_PARENTS (length entry.parents) || nat_lt MOST_IMPORTS (length entry.imports)
    then Err TooMany
    else Ok entry

-- what a table says of a loader, behind those that have these names
unfoldable pub entry_of : ConfigFault → List (List ℕ) → Data → Result Entry ConfigFault
entry_of wrong names d = do
  ms ← table_of wrong (is_one_of loader_keys) d
  name ← text_of wrong (get_member (codes "name") ms)
  dir ← optional_text wrong (get_member (codes "dir") ms)
  parent ← optional_text wrong (get_member (codes "parent") ms)
  parents ← parents_at wrong parent (get_member (codes "parents") ms)
  order ← order_of wrong (get_member (codes "order") ms)
  imports ← imports_at wrong (get_member (codes "imports") ms)
  if is_new_name names name
      then unless_many (record
      { name = name; dir = unwrap_or dir name; parents = parents; order = order; imports = imports })
      else Err wrong

-- the loaders, each behind those before it
abbrev pub entries_of : Items → Result (List Entry) ConfigFault
entries_of ds =
    each_from (λ before. entry_of (BadLoader (length before)) (map (λ e. e.name) before)) [] ds
