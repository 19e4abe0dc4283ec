-- What was found is of the list that it was looked for in.
use Rattle.std.proofs.Common.{◌≡◌, Bool, true, false, if◌then◌else◌, List, [], ◌∷◌, map, Option, Some, None, IfSome, sym, subst, refl}
use Rattle.std.specs.Prelude.{find, option_map}
use Rattle.std.specs.Option.{option_or}
use Rattle.std.specs.List.{AllByRecursion}
use Rattle.cl_model.specs.Lineages.{first, only}
use Rattle.cl_hierarchy.specs.Rows.{Rowed}
use Rattle.cl_hierarchy.specs.Lineages.{IsInOrder, IsRowIn, Lined, rows_in}
use Rattle.cl_hierarchy.proofs.Climbs.{own_row}
use Rattle.std.proofs.lemmas.Option.{same_Some}

-- the own row of a lineage, and a copy of it
pub own_inside : (l : Lined) (r : Rowed) → IsInOrder l → r ≡ l.own → IsRowIn (rows_in l) r
own_inside l r order e = subst (λ (x : Rowed). IsRowIn (rows_in l) x) (sym e) (own_row l l refl order)

found_now : {A : Type 0} (P : A → Type 0) (x a : A) (o : Option A) (b : Bool) → P x → (Some a ≡ o → P a) → Some a ≡ (if b then Some x else o) → P a
found_now P x a o true h others e = subst P (sym (same_Some a x e)) h
found_now P x a o false h others e = others e

-- what holds of each of a list holds of what is found in it
pub find_all : {A : Type 0} (P : A → Type 0) (p : A → Bool) (xs : List A) (a : A) → AllByRecursion P xs → Some a ≡ find p xs → P a
find_all P p [] a all e = absurd cc
find_all P p (x ∷ xs) a all e = found_now P x a (find p xs) (p x) all.0 (λ f. find_all P p xs a all.1 f) e

module _ {R : Type 0} (v : R → Rowed) (P : Rowed → Type 0) where
  pub first_all : (rows : List R) (o : Option R) → AllByRecursion (λ r. P (v r)) rows → option_map v o ≡ first (map v rows) → IfSome o (λ r. P (v r))
  first_all rows None all e = tt
  first_all [] (Some x) all e = absurd cc
  first_all (r ∷ rows) (Some x) all e = subst P (sym (same_Some (v x) (v r) e)) all.0

  other_all : (other : Option R) (x : R) → IfSome other (λ r. P (v r)) → Some (v x) ≡ option_map v other → P (v x)
  other_all None x h e = absurd cc
  other_all (Some y) x h e = subst P (sym (same_Some (v x) (v y) e)) h

  pub only_all : (left : List R) (o other : Option R) → AllByRecursion (λ r. P (v r)) left → IfSome other (λ r. P (v r)) → option_map v o ≡ option_or (only (map v left)) (option_map v other) → IfSome o (λ r. P (v r))
  only_all left None other all h e = tt
  only_all [] (Some x) other all h e = other_all other x h e
  only_all (l ∷ []) (Some x) other all h e = subst P (sym (same_Some (v x) (v l) e)) all.0
  only_all (l ∷ m ∷ left) (Some x) other all h e = other_all other x h e
