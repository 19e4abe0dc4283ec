-- Which texts are configurations, and which is the first fault of any other
-- (JVMS SE 8, 5.3.2).
use Rattle.std.specs.Prelude.{
  ◌<◌,
  ◌≤◌,
  ℕ,
  suc,
  ◌+◌,
  Bool,
  true,
  ◌&&◌,
  is_some,
  nat_lt,
  if◌then◌else◌,
  List,
  [],
  ◌∷◌,
  length,
  map,
  codes,
  Option,
  Some,
  None,
  Result,
  Ok,
  Err,
  All,
}
use Rattle.std.specs.Option.{ok_or}
use Rattle.toml.specs.Data.{as_array, as_table, Items, no_items, item, Members, get_member}
use Rattle.toml.specs.Parse.{parse_document}
use Rattle.cl_config.specs.declared.fault.ConfigFault.{ConfigFault}
use Rattle.cl_config.specs.declared.fault.ConfigFault.TheVariants.{
  NotToml,
  BadLoader,
  UnknownLoader,
  LaterLoader,
  TooMany,
}
use Rattle.cl_config.specs.Steps.{◌>>=◌}
use Rattle.cl_config.specs.Fields.{is_one_of, has_only, list_from}
use Rattle.cl_config.specs.Entries.{Entry, EntryImport, entries_of}
use Rattle.cl_model.specs.Homes.{Import}
use Rattle.cl_config.specs.Views.{Configured, Loader, loader_named}
use Rattle.cl_config.specs.declared.limits.TheConstants.{MOST_LOADERS}

-- ---- the top of the document

-- how many items there are
abbrev pub count : Items → ℕ
count no_items = 0
count (item d ds) = suc (count ds)

-- the one key at the top
abbrev pub top_keys : List (List ℕ)
top_keys = codes "loader" ∷ []

-- each item is a table
abbrev pub are_tables : Items → Bool
are_tables no_items = true
are_tables (item d ds) = is_some (as_table d) && are_tables ds

-- the array at the top
abbrev pub array_at : Members → Result Items ConfigFault
array_at ms =
    ok_or (get_member (codes "loader") ms) (BadLoader 0)
    >>= λ d. ok_or (as_array d) (BadLoader 0)

-- some tables, and not too many, where nothing stands beside them
abbrev pub loader_tables : Bool → Items → Result Items ConfigFault
loader_tables alone ds =
    if alone && nat_lt 0 (count ds) && are_tables ds
    then (if nat_lt MOST_LOADERS (count ds) then Err TooMany else Ok ds)
    else Err (BadLoader 0)

-- the tables at the top
unfoldable pub top_of : Members → Result Items ConfigFault
top_of ms = do
  ds ← array_at ms
  loader_tables (has_only (is_one_of top_keys) ms) ds

-- ---- whom a loader asks: each loader in order, its parents and then its imports

-- a place, where it is that of an earlier loader than i
abbrev pub earlier : ℕ → Option ℕ → Result ℕ ConfigFault
earlier i None = Err (UnknownLoader i)
earlier i (Some p) = if nat_lt p i then Ok p else Err (LaterLoader i)

-- the loader of this name among all, where it is an earlier one than i
abbrev pub earlier_named : List (List ℕ) → ℕ → List ℕ → Result ℕ ConfigFault
earlier_named names i name = earlier i (loader_named names name)

-- the parents of loader i
abbrev pub parents_of : List (List ℕ) → ℕ → List (List ℕ) → Result (List ℕ) ConfigFault
parents_of names i ps = list_from (λ before. earlier_named names i) [] ps

-- an import of loader i
unfoldable pub import_of : List (List ℕ) → ℕ → EntryImport → Result Import ConfigFault
import_of names i e = do
  target ← earlier_named names i e.from
  Ok (record { prefix = e.prefix; target = target })

-- the imports of loader i
abbrev pub imports_of : List (List ℕ) → ℕ → List EntryImport → Result (List Import) ConfigFault
imports_of names i es = list_from (λ before. import_of names i) [] es

-- loader i
unfoldable pub loader_of : List (List ℕ) → ℕ → Entry → Result Loader ConfigFault
loader_of names i e = do
  parents ← parents_of names i e.parents
  imports ← imports_of names i e.imports
  Ok (record { name = e.name; dir = e.dir; parents = parents; order = e.order; imports = imports })

-- each loader, in order
abbrev pub loaders_of : List Entry → Result (List Loader) ConfigFault
loaders_of entries =
    list_from (λ before. loader_of (map (λ e. e.name) entries) (length before)) [] entries

-- ---- the whole text

-- the configuration that a document is, or its first fault
unfoldable pub config_in : Members → Result Configured ConfigFault
config_in ms = do
  ds ← top_of ms
  entries ← entries_of ds
  loaders ← loaders_of entries
  Ok (record { loaders = loaders })

-- the configuration that a text is, or its first fault
abbrev pub config_of : List ℕ → Result Configured ConfigFault
config_of text = ok_or (parse_document text) NotToml >>= config_in

-- ---- what is so of every configuration

-- each parent and each import leads to a loader before this place (5.3.2)
pub record LeadsBelow (i : ℕ) (l : Loader) : Type 0 where
  pub parents : All (λ p. p < i) l.parents
  pub imports : All (λ m. m.target < i) l.imports

-- of loaders from this place on, each leads to earlier ones alone (5.3.2)
abbrev pub AllLeadBelow : ℕ → List Loader → Type 0
AllLeadBelow i [] = Unit {0}
AllLeadBelow i (l ∷ ls) = LeadsBelow i l × AllLeadBelow (i + 1) ls

-- there are some loaders and not too many, each of which leads to earlier ones alone (5.3.2)
pub record IsConfig (c : Configured) : Type 0 where
  pub some : 0 < length c.loaders
  pub few : length c.loaders ≤ MOST_LOADERS
  pub below : AllLeadBelow 0 c.loaders
