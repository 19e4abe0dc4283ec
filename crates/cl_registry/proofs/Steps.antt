-- The steps of a definition and of an initiation, on plain lists.
use Rattle.std.proofs.Common.{◌≡◌, ◌+◌, ◌<◌, ◌∙◌, ℕ, zero, suc, Bool, true, false, List, [], ◌∷◌, ◌++◌, length, map, take, Option, Some, refl, sym, ap, arith, if◌then◌else◌, add-one}
use Rattle.std.specs.Prelude.{◌==◌, ◌&&◌, nat_eq, slice_get, option_map}
use Rattle.std.specs.Cmp.Lexicographic.{pointwise}
use Rattle.cl_model.specs.Classes.{Above}
use Rattle.cl_registry.specs.Parts.{EachHas, HasSame, IsPut, is_there, shared_values, place_by, place_there}

pub shared_put : {R V : Type 0} (value : R → V) (b : Bool) (row : R) (v : V) (old new : Option R) → v ≡ value row → new ≡ (if b then Some row else old) → option_map value new ≡ (if b then Some v else option_map value old)
shared_put value true row v old new e is = ap (option_map value) is ∙ ap (λ x. Some x) (sym e)
shared_put value false row v old new e is = ap (option_map value) is

pub put_shared : {R V : Type 0} (value : R → V) (old new : ℕ → List ℕ → Option R) (loader loader' : ℕ) (name name' : List ℕ) (row : R) (v : V) → loader ≡ loader' → name ≡ name' → v ≡ value row
    → IsPut old new loader name row → IsPut (shared_values value old) (shared_values value new) loader' name' v
put_shared value old new loader loader' name name' row v i j e is l n =
    shared_put value ((loader' == l) && pointwise nat_eq name' n) row v (old l n) (new l n) e
    (is l n ∙ ap (λ (k : ℕ). if (k == l) && pointwise nat_eq name n then Some row else old l n) i ∙ ap (λ (m : List ℕ). if (loader' == l) && pointwise nat_eq m n then Some row else old l n) j)

-- the same after room was made
pub put_after : {R V : Type 0} (value : R → V) (old mid new : ℕ → List ℕ → Option R) (loader loader' : ℕ) (name name' : List ℕ) (row : R) (v : V) → loader ≡ loader' → name ≡ name' → v ≡ value row
    → HasSame old mid → IsPut mid new loader name row → IsPut (shared_values value old) (shared_values value new) loader' name' v
put_after value old mid new loader loader' name name' row v i j e same put l n =
    put_shared value mid new loader loader' name name' row v i j e put l n
    ∙ ap (λ o. if (loader' == l) && pointwise nat_eq name' n then Some v else option_map value o) (same l n)

take_suc : (place : List ℕ → Option ℕ) (xs : List Above) (i : ℕ) → i < length xs → map (place_by place) (take i xs) ++ place_there place (slice_get xs i) ∷ [] ≡ map (place_by place) (take (suc i) xs)
take_suc place [] i h = absurd (omega arith)
take_suc place (x ∷ xs) zero h = refl
take_suc place (x ∷ xs) (suc i) h = ap (λ (ns : List ℕ). place_by place x ∷ ns) (take_suc place xs i (omega arith))

pub take_more : (place : List ℕ → Option ℕ) (xs : List Above) (i : ℕ) → i < length xs → map (place_by place) (take i xs) ++ place_there place (slice_get xs i) ∷ [] ≡ map (place_by place) (take (i + 1) xs)
take_more place xs i h = rw add-one (take_suc place xs i h)

pub places_more : (place : List ℕ → Option ℕ) (xs : List Above) (i r : ℕ) (old new : List ℕ) → i < length xs → new ≡ old ++ r ∷ [] → old ≡ map (place_by place) (take i xs) → r ≡ place_there place (slice_get xs i)
    → new ≡ map (place_by place) (take (i + 1) xs)
places_more place xs i r old new h is was at =
    is ∙ ap (λ (ns : List ℕ). ns ++ r ∷ []) was ∙ ap (λ (n : ℕ). map (place_by place) (take i xs) ++ n ∷ []) at ∙ take_more place xs i h

-- of a supertype that was named before
pub place_again : (place : List ℕ → Option ℕ) (xs : List Above) (at first : ℕ) (r : ℕ) → slice_get (map (place_by place) (take at xs)) first ≡ Some r → r ≡ place_there place (slice_get xs first)
place_again place [] zero first r h = absurd cc
place_again place [] (suc at) first r h = absurd cc
place_again place (x ∷ xs) zero first r h = absurd cc
place_again place (x ∷ xs) (suc at) zero r h = cc
place_again place (x ∷ xs) (suc at) (suc first) r h = place_again place xs at first r h

pub each_has : (has_row : List ℕ → Bool) (xs : List Above) → ((k : ℕ) → k < length xs → is_there has_row (slice_get xs k) ≡ true) → EachHas has_row xs
each_has has_row [] all = tt
each_has has_row (x ∷ xs) all = (all 0 (omega arith), each_has has_row xs (λ k h. all (suc k) (omega arith)))

pub has_each : (has_row : List ℕ → Bool) (xs : List Above) (k : ℕ) → EachHas has_row xs → is_there has_row (slice_get xs k) ≡ true
has_each has_row [] k all = refl
has_each has_row (x ∷ xs) zero all = all.0
has_each has_row (x ∷ xs) (suc k) all = has_each has_row xs k all.1
