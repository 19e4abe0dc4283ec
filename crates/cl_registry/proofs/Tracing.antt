-- The rows of the classes that are recorded, and the lineages that are made of them.
use Rattle.std.proofs.Common.{◌≡◌, ◌∙◌, ℕ, Bool, true, false, List, [], ◌∷◌, map, Option, Some, None, refl, sym, ap, subst, if◌then◌else◌}
use Rattle.std.specs.Prelude.{nat_eq, IsSome, option_and_then}
use Rattle.std.specs.List.{AllByRecursion}
use Rattle.std.proofs.lemmas.Cmp.{nat_eq_equiv}
use Rattle.cl_model.specs.declared.class.Class.{Class}
use Rattle.cl_model.specs.Content.{Content}
use Rattle.cl_model.specs.Classes.{class, same_class}
use Rattle.cl_model.specs.States.{IsRecorded, recorded_definer}
use Rattle.cl_model.specs.Tables.{Records}
use Rattle.cl_model.proofs.Complete.{is_class}
use Rattle.cl_hierarchy.specs.Lineages.{IsRowIn, Lined, rows_in, row_of}
use Rattle.cl_hierarchy.specs.RowTables.{IsMadeOf}
use Rattle.cl_hierarchy.specs.Rows.{Rowed}
use Rattle.cl_registry.specs.Tables.{Shown, state_of, records_of, looked_row, IsKept, IsPlaced, LacksRecord}
use Rattle.cl_registry.specs.Traced.{IsRowOf, IsTraced}
use Rattle.cl_registry.proofs.Looked.{row_is}
use Rattle.cl_registry.proofs.Placed.{recorded_row}
use Rattle.cl_registry.proofs.Running.{all_known}
use Rattle.cl_model.proofs.Bind.{none_not_some, value_same}

-- ---- rows that are found

found_class : (P : Class → Type 0) (rows : List Rowed) (c : Class) (r : Rowed) → AllByRecursion P (map (λ r. r.class) rows) → row_of rows c ≡ Some r → P c
found_class P [] c r all e = absurd cc
found_class P (x ∷ rows) c r all e = at (same_class x.class c) refl e (found_class P rows c r all.1)
  where
    at : (b : Bool) → same_class x.class c ≡ b → (if b then Some x else row_of rows c) ≡ Some r → (row_of rows c ≡ Some r → P c) → P c
    at true t h ih = subst P (is_class x.class c t) all.0
    at false t h ih = ih h

found_row : (P : Rowed → Type 0) (rows : List Rowed) (c : Class) (r : Rowed) → AllByRecursion P rows → row_of rows c ≡ Some r → P r
found_row P [] c r all e = absurd cc
found_row P (x ∷ rows) c r all e = at (same_class x.class c) e (found_row P rows c r all.1)
  where
    at : (b : Bool) → (if b then Some x else row_of rows c) ≡ Some r → (row_of rows c ≡ Some r → P r) → P r
    at true h ih = let same : x ≡ r = cc in subst P same all.0
    at false h ih = ih h

-- a class that has a row is recorded
pub row_recorded : (told : Option Content) (x : Shown) (c : Class) (r : Rowed) → IsKept told x → row_of x.rows c ≡ Some r → IsRecorded (state_of x) c
row_recorded told x c r k e = found_class (IsRecorded (state_of x)) x.rows c r (subst (AllByRecursion (IsRecorded (state_of x))) (sym k.rows) (all_known x k.trusted)) e

some_of : (o : Option Rowed) → IsSome o → (r : Rowed) × (o ≡ Some r)
some_of None h = absurd cc
some_of (Some r) h = (r, refl)

pub some_recorded : (told : Option Content) (x : Shown) (c : Class) → IsKept told x → IsSome (row_of x.rows c) → IsRecorded (state_of x) c
some_recorded told x c k h = let r = some_of (row_of x.rows c) h in row_recorded told x c r.0 k r.1

lacks : (r : Rowed) (o : Option Rowed) → o ≡ None → o ≡ Some r → ⊥
lacks r o e f = cc

-- what is found for a class that is recorded
pub row_of_record : (x : Shown) (l p : ℕ) (n : List ℕ) → recorded_definer (records_of x) l n ≡ Some p → looked_row x l n ≡ row_of x.rows (class n p)
row_of_record x l p n e = ap (λ (o : Option ℕ). option_and_then (λ place. row_of x.rows (class n place)) o) e

-- one that has no row is not recorded
pub none_recorded : (told : Option Content) (x : Shown) (c : Class) → IsKept told x → row_of x.rows c ≡ None → IsRecorded (state_of x) c → ⊥
none_recorded told x c k none at = let r = recorded_row told x c.loader c.loader c.name k at in lacks r.row (row_of x.rows c) none (sym (row_of_record x c.loader c.loader c.name at) ∙ r.found)

-- ---- what a loader has defined

pub differs : (a b : ℕ) → false ≡ nat_eq a b → a ≡ b → ⊥
differs a b h e = let t : nat_eq a b ≡ true = subst (λ (n : ℕ). nat_eq a n ≡ true) e (nat_eq_equiv.refl a) in let f : false ≡ true = h ∙ t in absurd cc

none_or : (o : Option Rowed) → ((r : Rowed) → o ≡ Some r → ⊥) → o ≡ None
none_or None h = refl
none_or (Some r) h = absurd (h r refl)

pub own_row : (x : Shown) (l : ℕ) (n : List ℕ) (r : Rowed) → Records (state_of x) l n r.class → looked_row x l n ≡ Some r → r.class.loader ≡ l → Some r ≡ row_of x.rows (class n l)
own_row x l n r rec at own = sym at ∙ row_of_record x l l n (rec.1 ∙ ap (λ (p : ℕ). Some p) own)

pub other_row : (told : Option Content) (x : Shown) (l : ℕ) (n : List ℕ) (r : Rowed) → IsKept told x → Records (state_of x) l n r.class → (r.class.loader ≡ l → ⊥) → None ≡ row_of x.rows (class n l)
other_row told x l n r k rec other =
    sym (none_or (row_of x.rows (class n l)) (λ s e. other (value_same r.class.loader l (recorded_definer (records_of x) l n) rec.1 (row_recorded told x (class n l) s k e))))

pub lacks_row : (told : Option Content) (x : Shown) (l : ℕ) (n : List ℕ) → IsKept told x → LacksRecord x l n → None ≡ row_of x.rows (class n l)
lacks_row told x l n k none = sym (none_or (row_of x.rows (class n l)) (λ s e. none_not_some (recorded_definer (records_of x) l n) none (row_recorded told x (class n l) s k e)))

-- ---- lineages

row_stands : (told : Option Content) (x : Shown) (r : Rowed) → IsKept told x → IsRowIn x.rows r → IsRowOf x r
row_stands told x r k e = record { recorded = row_recorded told x r.class r k e; kept = e; placed = found_row (IsPlaced (records_of x)) x.rows r.class r k.placed e }

rows_stand : (told : Option Content) (x : Shown) (rs : List Rowed) → IsKept told x → AllByRecursion (IsRowIn x.rows) rs → AllByRecursion (IsRowOf x) rs
rows_stand told x [] k all = tt
rows_stand told x (r ∷ rs) k all = (row_stands told x r k all.0, rows_stand told x rs k all.1)

pub traced : (told : Option Content) (x : Shown) (c : Class) (l : Lined) → IsKept told x → IsMadeOf x.config x.rows c l → IsTraced x c l
traced told x c l k made = record { config = made.config_is; class = row_is x.rows c l.own made.own_is; rows = rows_stand told x (rows_in l) k made.rows_are }

pub made_recorded : (told : Option Content) (x : Shown) (c : Class) (l : Lined) → IsKept told x → IsMadeOf x.config x.rows c l → IsRecorded (state_of x) c
made_recorded told x c l k made = row_recorded told x c l.own k made.own_is
