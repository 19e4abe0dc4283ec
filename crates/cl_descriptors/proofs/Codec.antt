-- A reader and a spelling that undo each other.
use Rattle.std.proofs.Common.{◌≡◌, ◌⊎◌, inl, inr, ℕ, suc, ◌+◌, Bool, true, false, cond, not, ltb, List, [], ◌∷◌, ◌++◌, length, take, drop, Option, Some, None, refl, sym, ap, subst, ◌∙◌, arith}
use Rattle.std.specs.Prelude.{option_map, option_and_then, position}
use Rattle.std.specs.List.{AllByRecursion, position_or_len}
use Rattle.std.proofs.lemmas.Bool.{cases_lt, lt-ltb, le-ltb}

-- the value of a step that did not fail
pub then_some : {A B : Type 0} (f : A → Option B) (o : Option A) (y : B) → option_and_then f o ≡ Some y → (x : A) × (o ≡ Some x) × (f x ≡ Some y)
then_some f None y e = absurd cc
then_some f (Some x) y e = (x, refl, e)

pub map_some : {A B : Type 0} (f : A → B) (o : Option A) (y : B) → option_map f o ≡ Some y → (x : A) × (o ≡ Some x) × (f x ≡ y)
map_some f None y e = absurd cc
map_some f (Some x) y e = (x, refl, cc)

-- a test that did not fail
pub test_some : {A : Type 0} (b : Bool) (x y : A) → cond b (Some x) None ≡ Some y → (b ≡ true) × (x ≡ y)
test_some true x y e = (refl, cc)
test_some false x y e = absurd cc

pub chosen : {A : Type 0} (b : Bool) (x y z : A) → cond b x y ≡ z → ((b ≡ true) × (x ≡ z)) ⊎ ((b ≡ false) × (y ≡ z))
chosen true x y z e = inl (refl, e)
chosen false x y z e = inr (refl, e)

-- what a reader takes from the front is spelled so, and what is spelled so it takes
pub record IsCodec {A : Type 0} (read : List ℕ → Option (A × List ℕ)) (spell : A → List ℕ) (Fits : A → Type 0) : Type 0 where
  pub takes : (bytes : List ℕ) (x : A × List ℕ) → read bytes ≡ Some x → (bytes ≡ spell x.0 ++ x.1) × Fits x.0
  pub again : (x : A) (rest : List ℕ) → Fits x → read (spell x ++ rest) ≡ Some (x, rest)

-- ---- the first place that passes a test

module _ {X : Type 0} (p : X → Bool) where
  position-cons : (x : X) (xs : List X) → position p (x ∷ xs) ≡ cond (p x) (Some 0) (option_map (λ n. n + 1) (position p xs))
  position-cons x xs = elim (p x) as (λ b. cond (ltb (cond (not b) (1 + position_or_len p xs) 0) (suc (length xs))) (Some (cond (not b) (1 + position_or_len p xs) 0)) None ≡ cond b (Some 0) (option_map (λ n. n + 1) (position p xs))) [
    | true ↦ rw (lt-ltb 0 (suc (length xs)) (omega arith)) refl
    | false ↦ elim (cases_lt (position_or_len p xs) (length xs)) [
      | inl lt ↦ rw (lt-ltb (1 + position_or_len p xs) (suc (length xs)) (omega arith), lt-ltb (position_or_len p xs) (length xs) lt) (ap (λ (n : ℕ). Some n) (omega arith))
      | inr le ↦ rw (le-ltb (1 + position_or_len p xs) (suc (length xs)) (omega arith), le-ltb (position_or_len p xs) (length xs) le) refl
    ]
  ]

  -- after elements that fail stands one that passes
  pub position-at : (xs : List X) (y : X) (rest : List X) → AllByRecursion (λ x. p x ≡ false) xs → p y ≡ true → position p (xs ++ y ∷ rest) ≡ Some (length xs)
  position-at [] y rest fails passes = position-cons y rest ∙ rw passes refl
  position-at (x ∷ xs) y rest fails passes =
      position-cons x (xs ++ y ∷ rest) ∙ rw (fails.0, position-at xs y rest fails.1 passes) (ap (λ (n : ℕ). Some n) (omega arith))

  -- the parts round the first that passes
  pub record IsFirst (xs : List X) (k : ℕ) : Type 0 where
    pub at : X
    pub passes : p at ≡ true
    pub fails : AllByRecursion (λ x. p x ≡ false) (take k xs)
    pub parts : xs ≡ take k xs ++ at ∷ drop (suc k) xs
    pub long : length (take k xs) ≡ k

  pub position-is : (xs : List X) (k : ℕ) → position p xs ≡ Some k → IsFirst xs k
  position-is [] k e = absurd cc
  position-is (x ∷ xs) k e =
      elim (chosen (p x) (Some 0) (option_map (λ n. n + 1) (position p xs)) (Some k) (sym (position-cons x xs) ∙ e)) [
        | inl h ↦
            let zero-is : 0 ≡ k = cc in
            subst (λ (n : ℕ). IsFirst (x ∷ xs) n) zero-is (record { at = x; passes = h.0; fails = tt; parts = refl; long = refl })
        | inr h ↦
            let m = map_some (λ (n : ℕ). n + 1) (position p xs) k h.1 in
            let f = position-is xs m.0 m.1 in
            let next : suc m.0 ≡ k = omega arith in
            subst (λ (n : ℕ). IsFirst (x ∷ xs) n) next (record { at = f.at; passes = f.passes; fails = (h.0, f.fails); parts = ap (λ (ys : List X). x ∷ ys) f.parts; long = ap suc f.long })
      ]
