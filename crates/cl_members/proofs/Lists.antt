-- Finding and filtering in lists that a function made.
use Rattle.std.proofs.Common.{◌≡◌, Bool, true, false, if◌then◌else◌, List, [], ◌∷◌, ◌++◌, map, Option, Some, None, refl, sym, ap, ◌∙◌}
use Rattle.std.specs.Prelude.{find, filter, option_map}
use Rattle.std.specs.List.{AllByRecursion}
use Rattle.std.specs.Option.{option_or}
use Rattle.std.proofs.lemmas.Option.{same_Some}

module _ {A B : Type 0} (f : A → B) (p : B → Bool) where
  -- what is found among the images
  find_step : (x : A) (xs : List A) (b : Bool) → p (f x) ≡ b → option_map f (find (λ a. p (f a)) xs) ≡ find p (map f xs) → option_map f (find (λ a. p (f a)) (x ∷ xs)) ≡ find p (map f (x ∷ xs))
  find_step x xs true t others = rw t refl
  find_step x xs false t others = rw t others

  pub find_map : (xs : List A) → option_map f (find (λ a. p (f a)) xs) ≡ find p (map f xs)
  find_map [] = refl
  find_map (x ∷ xs) = find_step x xs (p (f x)) refl (find_map xs)

  filter_step : (x : A) (xs : List A) (b : Bool) → p (f x) ≡ b → map f (filter (λ a. p (f a)) xs) ≡ filter p (map f xs) → map f (filter (λ a. p (f a)) (x ∷ xs)) ≡ filter p (map f (x ∷ xs))
  filter_step x xs true t others = rw t (ap (λ (ys : List B). f x ∷ ys) others)
  filter_step x xs false t others = rw t others

  -- what is kept of the images
  pub filter_map_is : (xs : List A) → map f (filter (λ a. p (f a)) xs) ≡ filter p (map f xs)
  filter_map_is [] = refl
  filter_map_is (x ∷ xs) = filter_step x xs (p (f x)) refl (filter_map_is xs)

module _ {A B C : Type 0} (f : A → B) (g : B → C) where
  pub map_map : (xs : List A) → map (λ a. g (f a)) xs ≡ map g (map f xs)
  map_map [] = refl
  map_map (x ∷ xs) = ap (λ (ys : List C). g (f x) ∷ ys) (map_map xs)

  pub option_map_map : (o : Option A) → option_map (λ a. g (f a)) o ≡ option_map g (option_map f o)
  option_map_map None = refl
  option_map_map (Some a) = refl

module _ {A : Type 0} where
  pub or_assoc : (a b c : Option A) → option_or (option_or a b) c ≡ option_or a (option_or b c)
  or_assoc None b c = refl
  or_assoc (Some x) b c = refl

  append_step : (p : A → Bool) (x : A) (xs ys : List A) (b : Bool) → p x ≡ b → find p (xs ++ ys) ≡ option_or (find p xs) (find p ys) → find p ((x ∷ xs) ++ ys) ≡ option_or (find p (x ∷ xs)) (find p ys)
  append_step p x xs ys true t others = rw t refl
  append_step p x xs ys false t others = rw t others

  -- what is found first in one list and then in another
  pub find_append : (p : A → Bool) (xs ys : List A) → find p (xs ++ ys) ≡ option_or (find p xs) (find p ys)
  find_append p [] ys = refl
  find_append p (x ∷ xs) ys = append_step p x xs ys (p x) refl (find_append p xs ys)

  same_step : (p q : A → Bool) (x : A) (xs : List A) (b : Bool) → p x ≡ b → q x ≡ b → filter p xs ≡ filter q xs → filter p (x ∷ xs) ≡ filter q (x ∷ xs)
  same_step p q x xs true e g others = rw (e, g) (ap (λ (ys : List A). x ∷ ys) others)
  same_step p q x xs false e g others = rw (e, g) others

  -- tests that agree keep the same
  pub filter_same : (p q : A → Bool) → ((x : A) → p x ≡ q x) → (xs : List A) → filter p xs ≡ filter q xs
  filter_same p q e [] = refl
  filter_same p q e (x ∷ xs) = same_step p q x xs (q x) (e x) refl (filter_same p q e xs)

  -- what holds of each of a list holds of those that are kept
  kept_now : (P : A → Type 0) (p : A → Bool) (r : A) (rs : List A) (b : Bool) → p r ≡ b → P r → AllByRecursion P (filter p rs) → AllByRecursion P (if b then r ∷ filter p rs else filter p rs)
  kept_now P p r rs true e h all = (h, all)
  kept_now P p r rs false e h all = all

  pub all_kept : (P : A → Type 0) (p : A → Bool) (rs : List A) → AllByRecursion P rs → AllByRecursion P (filter p rs)
  all_kept P p [] all = tt
  all_kept P p (r ∷ rs) all = kept_now P p r rs (p r) refl all.0 (all_kept P p rs all.1)

-- ---- what was found passes

passes_now : {A : Type 0} (p : A → Bool) (x a : A) (o : Option A) (b : Bool) → p x ≡ b → (if b then Some x else o) ≡ Some a → (o ≡ Some a → p a ≡ true) → p a ≡ true
passes_now p x a o true t e others = ap p (sym (same_Some x a e)) ∙ t
passes_now p x a o false t e others = others e

pub find_passes : {A : Type 0} (p : A → Bool) (xs : List A) (a : A) → find p xs ≡ Some a → p a ≡ true
find_passes p [] a e = absurd cc
find_passes p (x ∷ xs) a e = passes_now p x a (find p xs) (p x) refl e (λ f. find_passes p xs a f)

-- what is found among what a list was made of
pub among_is : {R A : Type 0} (f : R → A) (p : A → Bool) (items : List R) (xs : List A) (o : Option R) → map f items ≡ xs → o ≡ find (λ r. p (f r)) items → find p xs ≡ option_map f o
among_is f p items xs o made e = ap (find p) (sym made) ∙ sym (find_map f p items) ∙ ap (option_map f) (sym e)

pub either_some : {A : Type 0} (a b : Option A) (x : A) (P : A → Type 0) → option_or a b ≡ Some x → (a ≡ Some x → P x) → (b ≡ Some x → P x) → P x
either_some None b x P e first last = last e
either_some (Some y) b x P e first last = first e
