-- One text of a configuration, by which it is told from others.
use Rattle.std.specs.Prelude.{◌≡◌, ℕ, List, [], ◌∷◌, ◌++◌, flat_map}
use Rattle.cl_model.specs.Homes.{Import}
use Rattle.cl_config.specs.declared.order.Order.{Order}
use Rattle.cl_config.specs.declared.order.Order.TheVariants.{ParentFirst, ChildFirst}
use Rattle.cl_config.specs.Views.{Configured, Loader}

-- an item of a list, behind a 1
abbrev pub flat_item : {A : Type 0} → (A → List ℕ) → A → List ℕ
flat_item flat x = 1 ∷ flat x

-- a list: its items, each behind a 1, and a 0 behind the last
abbrev pub flat_list : {A : Type 0} → (A → List ℕ) → List A → List ℕ
flat_list flat xs = flat_map (flat_item flat) xs ++ 0 ∷ []

-- a byte of a text, or a loader's number
abbrev pub flat_number : ℕ → List ℕ
flat_number n = n ∷ []

-- where a loader looks first
abbrev pub flat_order : Order → List ℕ
flat_order ParentFirst = 0 ∷ []
flat_order ChildFirst = 1 ∷ []

-- an import
abbrev pub flat_import : Import → List ℕ
flat_import m = flat_list flat_number m.prefix ++ flat_number m.target

-- a loader
abbrev pub flat_loader : Loader → List ℕ
flat_loader l =
    flat_list flat_number l.name ++ flat_list flat_number l.dir ++ flat_list flat_number l.parents
    ++ flat_order l.order ++ flat_list flat_import l.imports

-- all loaders
abbrev pub flat_of : Configured → List ℕ
flat_of c = flat_list flat_loader c.loaders

-- configurations of one text are one
abbrev pub FlatTellsApart : Type 0
FlatTellsApart = (c d : Configured) → flat_of c ≡ flat_of d → c ≡ d
