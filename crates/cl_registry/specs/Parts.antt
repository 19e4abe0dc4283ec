-- What the steps of a registry's calls make of plain tables (JVMS SE 8, 5.3, 5.3.5).
use Rattle.std.specs.Prelude.{◌≡◌, ◌<◌, ◌≤◌, ◌+◌, ◌==◌, ◌&&◌, ℕ, IfSome, Bool, true, nat_eq, if◌then◌else◌, List, [], ◌∷◌, ◌++◌, map, Option, Some, None, option_map, unwrap_or, slice_get, vec_len, vec_capacity}
use Rattle.std.specs.declared.alloc.Global.{Global}
use Rattle.std.specs.declared.vec.Vec.{Vec}
use Rattle.std.specs.List.{AllByRecursion}
use Rattle.std.specs.HashMap.{HashMap, spare}
use Rattle.std.specs.Cmp.Lexicographic.{pointwise}
use Rattle.cl_classfile.specs.Files.{file_of}
use Rattle.cl_model.specs.declared.event.Event.{Event}
use Rattle.cl_model.specs.Classes.{Above, supers}
use Rattle.cl_hierarchy.specs.Drafts.{Drafted}
use Rattle.cl_hierarchy.specs.Rows.{Rowed}

-- a table, of two keys, has this where a test tells so of the keys, and elsewhere what it had
abbrev pub IsPutWhere : {K L R : Type 0} → (K → L → Bool) → (K → L → Option R) → (K → L → Option R)
    → R → Type 0
IsPutWhere {K} {L} is_there old new r = (k : K) (l : L)
    → new k l ≡ (if is_there k l then Some r else old k l)

-- a table has this row for a loader and a name, and for others what it had (5.3)
abbrev pub IsPut : {R : Type 0} → (ℕ → List ℕ → Option R) → (ℕ → List ℕ → Option R) → ℕ → List ℕ → R
    → Type 0
IsPut old new loader name row = IsPutWhere (λ l n. (loader == l) && pointwise nat_eq name n) old new
    row

-- two tables have the same
abbrev pub HasSame : {K L R : Type 0} → (K → L → Option R) → (K → L → Option R) → Type 0
HasSame {K} {L} old new = (k : K) (l : L) → new k l ≡ old k l

-- a list of events has room for so many more
abbrev pub HasRoom : Vec Event Global → ℕ → Type 0
HasRoom history left = vec_len history + left ≤ vec_capacity history

-- a list of events has this one more
pub record AddsEvent (old new : Vec Event Global) (e : Event) : Type 0 where
  pub events : new.items ≡ old.items ++ e ∷ []
  pub used : vec_len new ≡ vec_len old + 1

-- a loader's part of a table has room for a row more
abbrev pub HasSpare : {R S : Type 0} → List (HashMap (List ℕ) R S) → ℕ → Type 0
HasSpare tables loader = IfSome (slice_get tables loader) (λ m. 0 < spare m)

-- a table of handles, as one of what they share
abbrev pub shared_values : {K L R V : Type 0} → (R → V) → (K → L → Option R) → K → L → Option V
shared_values value table k l = option_map value (table k l)

-- a supertype has a row, if there is one (5.3.5, steps 3 and 4)
abbrev pub is_there : (List ℕ → Bool) → Option Above → Bool
is_there has_row None = true
is_there has_row (Some a) = has_row a.name

-- each direct supertype has a row (5.3.5, steps 3 and 4)
abbrev pub EachHas : (List ℕ → Bool) → List Above → Type 0
EachHas has_row above = AllByRecursion (λ (a : Above). has_row a.name ≡ true) above

-- who defined a supertype, by a table of places (5.3); nothing is asked where it has none
abbrev pub place_by : (List ℕ → Option ℕ) → Above → ℕ
place_by place a = unwrap_or (place a.name) 0

-- who defined a supertype, if there is one (5.3)
abbrev pub place_there : (List ℕ → Option ℕ) → Option Above → ℕ
place_there place None = 0
place_there place (Some a) = place_by place a

-- the row of a draft's class, by a table of places (5.3.5, step 5)
abbrev pub row_by : (List ℕ → Option ℕ) → Drafted → Rowed
row_by place d = record {
  class = d.class;
  file = d.file;
  definers = map (place_by place)
      (supers (file_of d.file));
}
