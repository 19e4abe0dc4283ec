-- A home is its own home.
use Rattle.std.proofs.Common.{◌≡◌, ◌⊎◌, inl, inr, ℕ, zero, suc, Bool, true, false, ◌==◌, if◌then◌else◌, List, [], ◌∷◌, Option, Some, None, refl, arith, sym, ap, subst, ◌∙◌, slice_get}
use Rattle.std.specs.Prelude.{option_and_then, is_some}
use Rattle.std.specs.Option.{option_or}
use Rattle.std.proofs.lemmas.Bool.Decides.{nat_tests}
use Rattle.std.proofs.lemmas.Cmp.{nat_eq_equiv}
use Rattle.cl_classfile.specs.Files.{Name}
use Rattle.cl_model.specs.Homes.{World, WorldLoader, Order, ParentFirst, ChildFirst, own_home, first_home, in_order, home_without_import, decisive, home_by_earlier, home_below, home, is_java, is_loader}
use Rattle.cl_model.specs.Content.{content_at}

or_is : (a b : Option ℕ) (m : ℕ) → option_or a b ≡ Some m → (a ≡ Some m) ⊎ (b ≡ Some m)
or_is None b m h = inr h
or_is (Some x) b m h = inl h

if_is : (b : Bool) (x m : ℕ) → (if b then Some x else None) ≡ Some m → x ≡ m
if_is true x m h = cc
if_is false x m h = absurd cc

-- found earlier, or in the loader's own content
abbrev From : (ℕ → Option ℕ) → ℕ → ℕ → Type 0
From earlier n m = ((p : ℕ) × (earlier p ≡ Some m)) ⊎ (n ≡ m)

first_is : (earlier : ℕ → Option ℕ) (ps : List ℕ) (m : ℕ) → first_home earlier ps ≡ Some m → (p : ℕ) × (earlier p ≡ Some m)
first_is earlier [] m h = absurd cc
first_is earlier (p ∷ ps) m h = elim (or_is (earlier p) (first_home earlier ps) m h) [ inl k ↦ (p, k) | inr k ↦ first_is earlier ps m k ]

order_is : (earlier : ℕ → Option ℕ) (o : Order) (above own : Option ℕ) (n m : ℕ) → (above ≡ Some m → (p : ℕ) × (earlier p ≡ Some m)) → (own ≡ Some m → n ≡ m) → in_order o above own ≡ Some m → From earlier n m
order_is earlier ParentFirst above own n m f g h = elim (or_is above own m h) [ inl k ↦ inl (f k) | inr k ↦ inr (g k) ]
order_is earlier ChildFirst above own n m f g h = elim (or_is own above m h) [ inl k ↦ inr (g k) | inr k ↦ inl (f k) ]

undecided_is : (w : World) (name : Name) (earlier : ℕ → Option ℕ) (n : ℕ) (l : WorldLoader) (m : ℕ) → home_without_import w name earlier n l ≡ Some m → From earlier n m
undecided_is w name earlier n l m h =
    order_is earlier l.order (first_home earlier l.parents) (own_home w n name) n m (first_is earlier l.parents m) (if_is (is_some (content_at w.content n name)) n m) h

decided_is : (w : World) (name : Name) (earlier : ℕ → Option ℕ) (n : ℕ) (l : WorldLoader) (m : ℕ) (d : Option ℕ) → (elim d as (λ x. Option ℕ) [ Some target ↦ earlier target | None ↦ home_without_import w name earlier n l ]) ≡ Some m → From earlier n m
decided_is w name earlier n l m (Some target) h = inl (target, h)
decided_is w name earlier n l m None h = undecided_is w name earlier n l m h

at_is : (w : World) (name : Name) (earlier : ℕ → Option ℕ) (n m : ℕ) (l : Option WorldLoader) → option_and_then (home_by_earlier w name earlier n) l ≡ Some m → From earlier n m
at_is w name earlier n m None h = absurd cc
at_is w name earlier n m (Some l) h = decided_is w name earlier n l m (decisive l.imports name) h

own_equal : (n : ℕ) → (n == n) ≡ true
own_equal n = nat_eq_equiv.refl n

-- the home at a loader, or below
abbrev AtOrBelow : World → Name → ℕ → ℕ → Bool → Option ℕ
AtOrBelow w name n k b = elim b [ true ↦ option_and_then (home_by_earlier w name (home_below w name n) n) (slice_get w.loaders n) | false ↦ home_below w name n k ]

-- what is found at a loader is found there by its own home, if what is found below is
step : (w : World) (name : Name) (n k m : ℕ) → ((p : ℕ) → home_below w name n p ≡ Some m → home_below w name (suc m) m ≡ Some m) → (b : Bool) → AtOrBelow w name n k b ≡ Some m → home_below w name (suc m) m ≡ Some m
step w name n k m ih false h = ih k h
step w name n k m ih true h =
    elim (at_is w name (home_below w name n) n m (slice_get w.loaders n) h) [
      | inl f ↦ ih f.0 f.1
      | inr e ↦ subst (λ (x : ℕ). AtOrBelow w name x x (x == x) ≡ Some x) e (subst (λ (b : Bool). AtOrBelow w name n n b ≡ Some n) (sym (own_equal n)) (h ∙ ap (λ (x : ℕ). Some x) (sym e)))
    ]

-- what a loader below a bound finds, its home finds
settles : (w : World) (name : Name) (n k m : ℕ) → home_below w name n k ≡ Some m → home_below w name (suc m) m ≡ Some m
settles w name zero k m h = absurd cc
settles w name (suc n) k m h = step w name n k m (λ p. settles w name n p m) (k == n) h

-- the home of a `java/` name, where the loader is one
abbrev OfJava : World → Name → ℕ → Option ℕ
OfJava w name l = if is_loader w l then own_home w 0 name else None

-- the first loader is one, if any is
pub first_is_loader : (w : World) (l : ℕ) → is_loader w l ≡ true → is_loader w 0 ≡ true
first_is_loader w l h = grind (arith, nat_tests)

java_at : (w : World) (name : Name) (l m : ℕ) (b : Bool) → is_loader w l ≡ b → (if b then own_home w 0 name else None) ≡ Some m → OfJava w name m ≡ Some m
java_at w name l m false e h = absurd cc
java_at w name l m true e h =
    let zero_is : 0 ≡ m = if_is (is_some (content_at w.content 0 name)) 0 m h in
    subst (λ (x : ℕ). OfJava w name x ≡ Some x) zero_is
    (subst (λ (b : Bool). (if b then own_home w 0 name else None) ≡ Some 0) (sym (first_is_loader w l e)) (h ∙ ap (λ (x : ℕ). Some x) (sym zero_is)))

java_or : (w : World) (name : Name) (l m : ℕ) (b : Bool) → (elim b as (λ x. Option ℕ) [ true ↦ OfJava w name l | false ↦ home_below w name (suc l) l ]) ≡ Some m → (elim b as (λ x. Option ℕ) [ true ↦ OfJava w name m | false ↦ home_below w name (suc m) m ]) ≡ Some m
java_or w name l m true h = java_at w name l m (is_loader w l) refl h
java_or w name l m false h = settles w name (suc l) l m h

pub home_of_home : (w : World) (loader found : ℕ) (name : Name) → home w loader name ≡ Some found → home w found name ≡ Some found
home_of_home w loader found name h = java_or w name loader found (is_java name) h
