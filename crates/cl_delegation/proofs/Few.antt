-- Numbers below another, none of them twice, are no more than it.
use Rattle.std.proofs.Common.{◌≡◌, ◌≤◌, ◌<◌, ℕ, Bool, true, false, ◌==◌, ◌||◌, List, [], ◌∷◌, length, refl, sym, subst, eqb}
use Rattle.std.specs.List.{list_any, AllByRecursion, IsDistinct}
use Rattle.std.proofs.lemmas.Bool.{eqb-true, or_parts}
use Rattle.std.proofs.lemmas.Bool.Decides.{nat_tests}
use Rattle.std.proofs.Common.{arith}
use Rattle.std.proofs.lemmas.Map.Steps.{length-le_from_distinct_below}
use Rattle.cl_model.specs.Probes.{is_in, EachOnce}

other : (x m : ℕ) → (m == x) ≡ false → eqb x m ≡ false
other x m h = grind (arith, nat_tests)

none_behind : (x : ℕ) (ms : List ℕ) → is_in ms x ≡ false → AllByRecursion (λ y. eqb x y ≡ false) ms
none_behind x [] h = tt
none_behind x (m ∷ ms) h = let both = or_parts _ _ h in (other x m both.0, none_behind x ms both.1)

distinct : (ns : List ℕ) → EachOnce ns → IsDistinct eqb ns
unfolding IsDistinct
distinct [] h = tt
distinct (n ∷ ns) h = (none_behind n ns h.0, distinct ns h.1)

member_below : (n : ℕ) (ns : List ℕ) (q : ℕ) → AllByRecursion (λ m. m < n) ns → list_any (eqb q) ns ≡ true → q < n
member_below n [] q h e = absurd cc
member_below n (m ∷ ms) q h e = at (eqb q m) refl (member_below n ms q h.1) e
  where
    at : (b : Bool) → eqb q m ≡ b → (list_any (eqb q) ms ≡ true → q < n) → (b || list_any (eqb q) ms) ≡ true → q < n
    at true same more e = subst (λ (k : ℕ). k < n) (sym (eqb-true q m same)) h.0
    at false apart more e = more e

pub few_below : (n : ℕ) (ns : List ℕ) → EachOnce ns → AllByRecursion (λ m. m < n) ns → length ns ≤ n
few_below n ns once below = length-le_from_distinct_below ns n (distinct ns once) (λ q e. member_below n ns q below e)
