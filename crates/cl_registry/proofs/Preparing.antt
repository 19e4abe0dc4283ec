-- How many of the classes above another are prepared, from the first on (JVMS SE 8, 5.4.2).
use Rattle.std.proofs.Common.{Global, ◌≡◌, ◌<◌, ◌≤◌, ◌+◌, ℕ, zero, suc, List, [], ◌∷◌, length, map, Option, Some, refl, sym, ap, subst, arith, get_or}
use Rattle.std.specs.Prelude.{slice_get, take, Contains, IfSome}
use Rattle.std.specs.List.{AllByRecursion}
use Rattle.std.specs.declared.sync.Arc.{Arc}
use Rattle.cl_hierarchy.specs.Lineages.{Lined}
use Rattle.cl_hierarchy.specs.Rows.{Rowed}
use Rattle.cl_model.specs.declared.class.Class.{Class}
use Rattle.cl_registry.specs.Imposing.{AreFirstPrepared, ArePreparedUpTo}
use Rattle.cl_registry.specs.Tables.{Shown, state_of}

abbrev pub values : List (Arc Rowed Global) → List Rowed
values rows = map (λ (r : Arc Rowed Global). r.value) rows

none : (P : Rowed → Type 0) (rows : List Rowed) → AllByRecursion P (take 0 rows)
none P [] = tt
none P (r ∷ rows) = tt

more : (P : Rowed → Type 0) (rows : List (Arc Rowed Global)) (i : ℕ) (r : Arc Rowed Global) → i < length rows → r ≡ get_or rows i r → AllByRecursion P (take i (values rows)) → P r.value → AllByRecursion P (take (suc i) (values rows))
more P [] i r lt at h p = absurd (omega (arith, lt))
more P (x ∷ rows) zero r lt at h p = (subst (λ (y : Arc Rowed Global). P y.value) at p, none P (values rows))
more P (x ∷ rows) (suc i) r lt at h p = (h.0, more P rows i r (omega (arith, lt)) at h.1 p)

there : (rows : List (Arc Rowed Global)) (i : ℕ) (r : Arc Rowed Global) → i < length rows → r ≡ get_or rows i r → slice_get (values rows) i ≡ Some r.value
there [] i r lt at = absurd (omega (arith, lt))
there (x ∷ rows) zero r lt at = ap (λ (y : Arc Rowed Global). Some y.value) (sym at)
there (x ∷ rows) (suc i) r lt at = there rows i r (omega (arith, lt)) at

many : (rows : List (Arc Rowed Global)) → length (values rows) ≡ length rows
many [] = refl
many (r ∷ rows) = ap (λ n. suc n) (many rows)

no_more : (P : Rowed → Type 0) (rows : List Rowed) → IfSome (slice_get rows (length rows)) P
no_more P [] = tt
no_more P (r ∷ rows) = no_more P rows

pub none_yet : (x : Shown) (l : Lined) → AreFirstPrepared x l 0
none_yet x l = none (λ (r : Rowed). Contains (state_of x).prepared r.class) l.above

pub one_more : (x : Shown) (l : Lined) (rows : List (Arc Rowed Global)) (i : ℕ) (r : Arc Rowed Global) → values rows ≡ l.above → i < length rows → r ≡ get_or rows i r → AreFirstPrepared x l i → Contains (state_of x).prepared r.value.class → AreFirstPrepared x l (i + 1)
one_more x l rows i r are lt at h p =
    let one : suc i ≡ i + 1 = omega arith in
    let before = subst (λ (above : List Rowed). AllByRecursion (λ (y : Rowed). Contains (state_of x).prepared y.class) (take i above)) (sym are) h in
    subst (λ (n : ℕ). AreFirstPrepared x l n) one
    (subst (λ (above : List Rowed). AllByRecursion (λ (y : Rowed). Contains (state_of x).prepared y.class) (take (suc i) above)) are (more (λ (y : Rowed). Contains (state_of x).prepared y.class) rows i r lt at before p))

pub up_to_one : (x : Shown) (l : Lined) (rows : List (Arc Rowed Global)) (i : ℕ) (r : Arc Rowed Global) → values rows ≡ l.above → i < length rows → r ≡ get_or rows i r → AreFirstPrepared x l i → (Contains (state_of x).prepared r.value.class → ⊥) → ArePreparedUpTo x l i
up_to_one x l rows i r are lt at h p = record {
  within = let long = many rows in let same = ap (λ (above : List Rowed). length above) are in omega (arith, long, same, lt);
  first = h;
  next = subst (λ (above : List Rowed). IfSome (slice_get above i) (λ (y : Rowed). Contains (state_of x).prepared y.class → ⊥)) are (subst (λ (o : Option Rowed). IfSome o (λ (y : Rowed). Contains (state_of x).prepared y.class → ⊥)) (sym (there rows i r lt at)) p);
}

all_taken : (P : Rowed → Type 0) (rows : List Rowed) (i : ℕ) → length rows ≤ i → AllByRecursion P (take i rows) → AllByRecursion P (take (length rows) rows)
all_taken P [] i le h = tt
all_taken P (r ∷ rows) zero le h = absurd (omega (arith, le))
all_taken P (r ∷ rows) (suc i) le h = (h.0, all_taken P rows i (omega (arith, le)) h.1)

pub up_to_last : (x : Shown) (l : Lined) (rows : List (Arc Rowed Global)) (i : ℕ) → values rows ≡ l.above → length rows ≤ i → AreFirstPrepared x l i → ArePreparedUpTo x l (length rows)
up_to_last x l rows i are end h =
    let long = many rows in
    let same = ap (λ (above : List Rowed). length above) are in
    let n : length l.above ≡ length rows = omega (arith, long, same) in
    subst (λ (k : ℕ). ArePreparedUpTo x l k) n
    (record {
      within = omega arith;
      first = all_taken (λ (r : Rowed). Contains (state_of x).prepared r.class) l.above i (omega (arith, n, end)) h;
      next = no_more (λ (y : Rowed). Contains (state_of x).prepared y.class → ⊥) l.above;
    })
