-- A list with those of another that it lacks behind it.
use Rattle.std.proofs.Common.{◌≡◌, ◌≢◌, ℕ, ◌<◌, Bool, true, false, ◌==◌, ◌||◌, if◌then◌else◌, List, [], ◌∷◌, ◌++◌, length, Some, refl, sym, ap, subst, ◌∙◌, arith}
use Rattle.std.proofs.lemmas.Bool.{eqb-true}
use Rattle.std.proofs.lemmas.Cmp.{nat_eq_equiv}
use Rattle.std.proofs.lemmas.Bool.Decides.{nat_tests}
use Rattle.std.proofs.lemmas.List.Folds.{list_any-append}
use Rattle.std.proofs.Math.ListN.{set, get_or}
use Rattle.std.proofs.lemmas.Option.{slice_get-get_or}
use Rattle.std.proofs.lemmas.List.{get_or-set_same, get_or-set_other, length-set}
use Rattle.cl_model.specs.Probes.{is_in}
use Rattle.cl_delegation.specs.Walks.{with_one, added, own, AllIn, AreMarked}

or_false : (b : Bool) → (b || false) ≡ b
or_false true = refl
or_false false = refl

or_right : (a b : Bool) → b ≡ true → (a || b) ≡ true
or_right true b h = refl
or_right false b h = h

or_left : (a b : Bool) → a ≡ true → (a || b) ≡ true
or_left true b h = refl
or_left false b h = absurd cc

-- what stands in a list with one more behind it
pub in_snoc : (ns : List ℕ) (x n : ℕ) → is_in (ns ++ x ∷ []) n ≡ (is_in ns n || (x == n))
in_snoc ns x n = list_any-append (λ m. m == n) ns (x ∷ []) ∙ ap (λ (b : Bool). is_in ns n || b) (or_false (x == n))

one_stays : (ns : List ℕ) (x n : ℕ) → is_in ns n ≡ true → is_in (with_one ns x) n ≡ true
one_stays ns x n h = at (is_in ns x)
  where
    at : (b : Bool) → is_in (if b then ns else ns ++ x ∷ []) n ≡ true
    at true = h
    at false = in_snoc ns x n ∙ or_left (is_in ns n) (x == n) h

one_there : (ns : List ℕ) (x : ℕ) → is_in (with_one ns x) x ≡ true
one_there ns x = at (is_in ns x) refl
  where
    at : (b : Bool) → is_in ns x ≡ b → is_in (if b then ns else ns ++ x ∷ []) x ≡ true
    at true e = e
    at false e = in_snoc ns x x ∙ or_right (is_in ns x) (x == x) (nat_eq_equiv.refl x)

-- what stands in a list stays there
pub stays : (ns xs : List ℕ) (n : ℕ) → is_in ns n ≡ true → is_in (added ns xs) n ≡ true
stays ns [] n h = h
stays ns (x ∷ xs) n h = stays (with_one ns x) xs n (one_stays ns x n h)

pub all_stay : (ns xs ms : List ℕ) → AllIn ns ms → AllIn (added ns xs) ms
all_stay ns xs [] h = tt
all_stay ns xs (m ∷ ms) h = (stays ns xs m h.0, all_stay ns xs ms h.1)

-- what was added stands there
pub all_there : (ns xs : List ℕ) → AllIn (added ns xs) xs
all_there ns [] = tt
all_there ns (x ∷ xs) = (stays (with_one ns x) xs x (one_there ns x), all_there (with_one ns x) xs)

-- what stands there is not added again
pub nothing_more : (ns xs : List ℕ) → AllIn ns xs → added ns xs ≡ ns
nothing_more ns [] h = refl
nothing_more ns (x ∷ xs) h = ap (λ (ms : List ℕ). added ms xs) same ∙ nothing_more ns xs h.1
  where
    same : with_one ns x ≡ ns
    same = ap (λ (b : Bool). if b then ns else ns ++ x ∷ []) h.0

-- ---- marks

marked_at : (route : List ℕ) (asked : List Bool) (x n : ℕ) (b : Bool) → (x == n) ≡ b → AreMarked route asked → x < length asked → n < length asked → get_or (set asked x true) n true ≡ (is_in route n || b)
marked_at route asked x n true e h lt within =
    let same : n ≡ x = sym (eqb-true x n e) in
    subst (λ (k : ℕ). get_or (set asked x true) k true ≡ (is_in route k || true)) (sym same) (get_or-set_same asked x true true lt ∙ sym (or_right (is_in route x) true refl))
marked_at route asked x n false e h lt within =
    let other : n ≢ x = λ k. absurd (grind (arith, nat_tests)) in
    let is : Some (get_or asked n true) ≡ Some (is_in route n) = sym (slice_get-get_or asked n true within) ∙ h n within in
    let value : get_or asked n true ≡ is_in route n = cc in
    get_or-set_other asked x n true true other ∙ value ∙ sym (or_false (is_in route n))

-- one that is asked is marked
pub marked : (route : List ℕ) (asked : List Bool) (x : ℕ) → AreMarked route asked → x < length asked → AreMarked (route ++ x ∷ []) (set asked x true)
marked route asked x h lt n within =
    let n_in : n < length asked = omega (arith, within, length-set asked x true) in
    slice_get-get_or (set asked x true) n true within ∙ ap (λ (b : Bool). Some b) (marked_at route asked x n (x == n) refl h lt n_in ∙ sym (in_snoc route x n))

in_of : (b c : Bool) → Some b ≡ Some c → b ≡ c
in_of b c e = cc

-- one that is marked is not asked again
pub asked_before : (route : List ℕ) (asked : List Bool) (x : ℕ) (wanted b : Bool) → AreMarked route asked → x < length asked → b ≡ get_or asked x b → b ≡ true → route ≡ added route (own wanted x)
asked_before route asked x false b h lt is true_is = refl
asked_before route asked x true b h lt is true_is = sym (nothing_more route (x ∷ []) (there, tt))
  where
    there : is_in route x ≡ true
    there = in_of _ _ (sym (h x lt) ∙ slice_get-get_or asked x b lt) ∙ sym is ∙ true_is

-- one that is not wanted is not asked
pub unwanted : (route : List ℕ) (x : ℕ) (wanted : Bool) → wanted ≡ false → route ≡ added route (own wanted x)
unwanted route x false e = refl
unwanted route x true e = absurd cc
