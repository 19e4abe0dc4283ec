-- What is recorded of one name by a list with one more, and what a loop makes of a list that it changes.
use Rattle.std.proofs.Common.{◌≡◌, ◌≢◌, ℕ, Bool, true, false, ◌==◌, List, [], ◌∷◌, ◌++◌, Option, Some, None, find, map, take, drop, set, get_or, length, ◌<◌, ◌+◌, sym, ap, subst, ◌∙◌, refl, eq-eqb}
use Rattle.std.specs.Prelude.{option_map, if◌then◌else◌}
use Rattle.std.proofs.lemmas.Bool.{eqb-true}
use Rattle.std.proofs.lemmas.List.Edits.{map_over_more}
use Rattle.cl_constraints.specs.Singles.{Enters}

-- records of any form, whose loaders and homes are these
module _ {R : Type 0} (at home : R → ℕ) where
  -- the home of the first that a loader has
  abbrev pub first_home : List R → ℕ → Option ℕ
  first_home rs x = option_map home (find (λ r. at r == x) rs)

  pub home_elsewhere : (rs : List R) (n : R) (x : ℕ) → x ≢ at n → first_home (rs ++ n ∷ []) x ≡ first_home rs x
  home_elsewhere [] n x ne = by (at n == x) (λ k. ne (sym (eqb-true (at n) x k)))
    where
      by : (b : Bool) → (b ≡ true → ⊥) → option_map home (if b then Some n else None) ≡ None
      by true no_match = absurd (no_match refl)
      by false no_match = refl
  home_elsewhere (r ∷ rs) n x ne = by (at r == x) (home_elsewhere rs n x ne)
    where
      by : (b : Bool) → first_home (rs ++ n ∷ []) x ≡ first_home rs x → option_map home (if b then Some r else find (λ q. at q == x) (rs ++ n ∷ [])) ≡ option_map home (if b then Some r else find (λ q. at q == x) rs)
      by true ih = refl
      by false ih = ih

  pub home_here : (rs : List R) (n : R) → first_home rs (at n) ≡ None → first_home (rs ++ n ∷ []) (at n) ≡ Some (home n)
  home_here [] n fresh = rw (eq-eqb (at n) (at n) refl) refl
  home_here (r ∷ rs) n fresh = by (at r == at n) (λ k. home_here rs n k) fresh
    where
      by : (b : Bool) → (first_home rs (at n) ≡ None → first_home (rs ++ n ∷ []) (at n) ≡ Some (home n)) → option_map home (if b then Some r else find (λ q. at q == at n) rs) ≡ None → option_map home (if b then Some r else find (λ q. at q == at n) (rs ++ n ∷ [])) ≡ Some (home n)
      by true ih k = let z : Some (home r) ≡ None = k in absurd cc
      by false ih k = ih k

  -- one more enters
  pub enters : (rs : List R) (n : R) → first_home rs (at n) ≡ None → Enters (λ x. first_home rs x) (λ x. first_home (rs ++ n ∷ []) x) (at n) (home n)
  enters rs n fresh = record { here = home_here rs n fresh; elsewhere = λ x ne. home_elsewhere rs n x ne }

-- a loop that changes one element after another
pub changed_more : {X : Type 0} (f : X → X) (xs ys : List X) (i : ℕ) (x y : X) → i < length xs → ys ≡ map f (take i xs) ++ drop i xs → x ≡ get_or ys i x → y ≡ f (get_or ys i x) → set ys i y ≡ map f (take (i + 1) xs) ++ drop (i + 1) xs
changed_more f xs ys i x y lt inv is e = subst (λ z. set ys i z ≡ map f (take (i + 1) xs) ++ drop (i + 1) xs) (sym (e ∙ ap f (sym is))) (map_over_more f xs ys i x lt inv is)
