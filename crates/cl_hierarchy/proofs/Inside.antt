-- The rows of a lineage with its own among them: each has the kin that it has in the lineage.
use Rattle.std.proofs.Common.{◌≡◌, ◌∙◌, Bool, true, false, if◌then◌else◌, List, [], ◌∷◌, ◌++◌, Option, Some, None, Result, Ok, Err, IfOk, map, refl, sym, ap, subst}
use Rattle.std.specs.List.{AllByRecursion}
use Rattle.cl_model.specs.declared.class.Class.{Class}
use Rattle.cl_model.specs.Classes.{same_class}
use Rattle.cl_model.specs.Lineages.{Kin}
use Rattle.cl_hierarchy.specs.Lineages.{IsInOrder, IsRowIn, Lined, kin_at, kin_of, row_of, rows_in}
use Rattle.cl_hierarchy.specs.Rows.{Rowed}
use Rattle.cl_hierarchy.specs.Trees.{AllKnown, SupersBefore, interfaces_in, kin_under, kins, superclass_in}
use Rattle.cl_hierarchy.proofs.Ancestry.{kin_stays, row_kin}
use Rattle.cl_hierarchy.proofs.Climbs.{kins_both, own_row, row_more}
use Rattle.cl_hierarchy.proofs.RowTables.{before_push}

row_none : (xs ys : List Rowed) (c : Class) → row_of xs c ≡ None → row_of (xs ++ ys) c ≡ row_of ys c
row_none [] ys c e = refl
row_none (x ∷ xs) ys c e = at (λ f. row_none xs ys c f) (same_class x.class c) e
  where
    at : (row_of xs c ≡ None → row_of (xs ++ ys) c ≡ row_of ys c) → (b : Bool) → (if b then Some x else row_of xs c) ≡ None → (if b then Some x else row_of (xs ++ ys) c) ≡ row_of ys c
    at further true f = absurd cc
    at further false f = further f

same_row : (x y : Rowed) (o : Option Rowed) → o ≡ Some x → o ≡ Some y → x ≡ y
same_row x y o e f = cc

record HasKnown (known : List Kin) (r : Rowed) : Type 0 where
  superclass : AllKnown known (superclass_in r)
  interfaces : AllKnown known (interfaces_in r)

module _ (l : Lined) (h : IsInOrder l) where
  pub whole : SupersBefore [] (rows_in l)
  whole = before_push [] l.above l.own h.above h.own

  alone_is : (r : Rowed) (b : Bool) → (if b then Some l.own else None) ≡ Some r → HasKnown (kins l.above) r
  alone_is r false e = absurd cc
  alone_is r true e = subst (λ (x : Rowed). HasKnown (kins l.above) x) (same_row l.own r (Some l.own) refl e) (record { superclass = h.own.superclass; interfaces = h.own.interfaces })

  known_by : (r : Rowed) → IsRowIn (rows_in l) r → (o : Option Rowed) → row_of l.above r.class ≡ o → HasKnown (kins l.above) r
  known_by r i None e = alone_is r (same_class l.own.class r.class) (sym (row_none l.above (l.own ∷ []) r.class e) ∙ i)
  known_by r i (Some x) e =
      let same : x ≡ r = same_row x r (row_of (rows_in l) r.class) (row_more l.above (l.own ∷ []) r.class x e) i in
      let k = row_kin [] l.above r.class x h.above e in
      subst (λ (y : Rowed). HasKnown (kins l.above) y) same (record { superclass = k.superclass; interfaces = k.interfaces })

  pub kin_inside : (r : Rowed) → IsRowIn (rows_in l) r → kin_under (kins (rows_in l)) r ≡ kin_at l r
  kin_inside r i =
      let k = known_by r i (row_of l.above r.class) refl in
      ap (λ (ks : List Kin). kin_under ks r) (kins_both [] l.above (l.own ∷ [])) ∙ kin_stays (kins l.above) (l.own ∷ []) r (h.own, tt) k.superclass k.interfaces

  pub kins_inside : {A : Type 0} (v : A → Rowed) (xs : List A) → AllByRecursion (λ x. IsRowIn (rows_in l) (v x)) xs → map (λ x. kin_under (kins (rows_in l)) (v x)) xs ≡ map (λ x. kin_at l (v x)) xs
  kins_inside v [] all = refl
  kins_inside v (x ∷ xs) all =
      ap (λ (k : Kin). k ∷ map (λ y. kin_under (kins (rows_in l)) (v y)) xs) (kin_inside (v x) all.0) ∙ ap (λ (ks : List Kin). kin_at l (v x) ∷ ks) (kins_inside v xs all.1)

if_both : {A E : Type 0} (P Q R : A → Type 0) (r : Result A E) → ((a : A) → P a → Q a → R a) → IfOk r P → IfOk r Q → IfOk r R
if_both P Q R (Ok a) f h g = f a h g
if_both P Q R (Err e) f h g = tt

-- the rows of the table are those of the lineage
pub table_at : (l : Lined) (table above : List Rowed) (own : Rowed) → table ≡ above ++ own ∷ [] → above ≡ l.above → own ≡ l.own → table ≡ rows_in l
table_at l table above own e f o = e ∙ ap (λ (rs : List Rowed). rs ++ own ∷ []) f ∙ ap (λ (r : Rowed). l.above ++ r ∷ []) o

module _ (l : Lined) (table : List Rowed) (own : Rowed) (h : IsInOrder l) (e : table ≡ rows_in l) (o : own ≡ l.own) where
  pub ordered : SupersBefore [] table
  ordered = subst (λ (rs : List Rowed). SupersBefore [] rs) (sym e) (whole l h)

  own_in : IsRowIn (rows_in l) own
  own_in = subst (λ (r : Rowed). IsRowIn (rows_in l) r) (sym o) (own_row l l refl h)

  pub own_stands : IsRowIn table own
  own_stands = subst (λ (rs : List Rowed). IsRowIn rs own) (sym e) own_in

  pub listed_inside : {V A E : Type 0} (items : V → List A) (v : A → Rowed) (goal : Kin → List Kin) (found : Result V E) → IfOk found (λ x. map (λ y. kin_under (kins table) (v y)) (items x) ≡ goal (kin_under (kins table) own))
      → IfOk found (λ x. AllByRecursion (λ y. IsRowIn table (v y)) (items x)) → IfOk found (λ x. map (λ y. kin_at l (v y)) (items x) ≡ goal (kin_of l))
  listed_inside {V} items v goal found f g =
      if_both (λ (x : V). map (λ y. kin_under (kins table) (v y)) (items x) ≡ goal (kin_under (kins table) own)) (λ (x : V). AllByRecursion (λ y. IsRowIn table (v y)) (items x))
      (λ (x : V). map (λ y. kin_at l (v y)) (items x) ≡ goal (kin_of l)) found
      (λ x k a.
      sym (kins_inside l h v (items x) (subst (λ (rs : List Rowed). AllByRecursion (λ y. IsRowIn rs (v y)) (items x)) e a))
      ∙ subst (λ (rs : List Rowed). map (λ y. kin_under (kins rs) (v y)) (items x) ≡ goal (kin_under (kins rs) own)) e k
      ∙ ap (λ (y : Kin). goal y) (kin_inside l h own own_in)
      ∙ ap (λ (r : Rowed). goal (kin_at l r)) o) f g

  pub rows_inside : {V A E : Type 0} (items : V → List A) (v : A → Rowed) (found : Result V E) → IfOk found (λ x. AllByRecursion (λ y. IsRowIn table (v y)) (items x)) → IfOk found (λ x. AllByRecursion (λ y. IsRowIn (rows_in l) (v y)) (items x))
  rows_inside {V} items v found g = subst (λ (rs : List Rowed). IfOk found (λ x. AllByRecursion (λ y. IsRowIn rs (v y)) (items x))) e g
