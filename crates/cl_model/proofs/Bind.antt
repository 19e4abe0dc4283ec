-- Work in two pieces: what it makes, and what it is made of.
use Rattle.std.proofs.Common.{◌≡◌, ◌⊎◌, inl, inr, List, [], ◌++◌, Option, Some, None, Result, Ok, Err, refl, sym, ap, subst, ◌∙◌}
use Rattle.std.specs.Prelude.{option_map}
use Rattle.cl_model.specs.Classes.{Error}
use Rattle.cl_model.specs.States.{Need}
use Rattle.cl_model.specs.Works.{Work, Made, Ask, or_fail, unless_wrong, of_result, end_with, after_made, go_on, ◌>>=◌}

pub some_same : {A : Type 0} (x y : A) → Some x ≡ Some y → x ≡ y
some_same x y h = cc

pub value_same : {A : Type 0} (x y : A) (o : Option A) → o ≡ Some x → o ≡ Some y → x ≡ y
value_same x y o h k = cc

pub none_not_some : {A : Type 0} {x : A} (o : Option A) → o ≡ None → o ≡ Some x → ⊥
none_not_some o h k = cc

pub ok_same : {A : Type 0} (x y : A) (r : Result A Error) → r ≡ Ok x → r ≡ Ok y → x ≡ y
ok_same x y r h k = cc

pub err_same : {A : Type 0} (x y : Error) (r : Result A Error) → r ≡ Err x → r ≡ Err y → x ≡ y
err_same x y r h k = cc

pub ok_not_err : {A : Type 0} (x : A) (y : Error) (r : Result A Error) → r ≡ Ok x → r ≡ Err y → ⊥
ok_not_err x y r h k = cc

-- needs in two parts, each of which is known
pub needs_two : (m a b x y : List Need) → m ≡ a ++ b → a ≡ x → b ≡ y → m ≡ x ++ y
needs_two m a b x y h p q = cc

-- ---- what work is made of

-- two pieces of which the first ends well
pub record Bound {A B : Type 0} (a : Work A) (f : A → Work B) (m : Made B) (r : Result B Error) : Type 0 where
  pub first : Made A
  pub value : A
  pub second : Made B
  pub made : a ≡ Some first
  pub ended : first.ends ≡ Ok value
  pub next : f value ≡ Some second
  pub ends : second.ends ≡ r
  pub needs : m.needs ≡ first.needs ++ second.needs
  pub asks : m.asked ≡ first.asked ++ second.asked

-- the first piece alone, which ends ill
pub record Stopped {A B : Type 0} (a : Work A) (m : Made B) (e : Error) : Type 0 where
  pub first : Made A
  pub made : a ≡ Some first
  pub ended : first.ends ≡ Err e
  pub needs : m.needs ≡ first.needs
  pub asks : m.asked ≡ first.asked

abbrev pub Pieces : {A B : Type 0} → Work A → (A → Work B) → Made B → Result B Error → Type 0
Pieces a f m r = Bound a f m r ⊎ ((e : Error) × (r ≡ Err e) × Stopped a m e)

mapped : {A B : Type 0} (first : Made A) (x : A) (f : A → Work B) (m : Made B) (r : Result B Error) (y : Work B) → first.ends ≡ Ok x → f x ≡ y → option_map (after_made first.needs first.asked) y ≡ Some m → m.ends ≡ r → Bound (Some first) f m r
mapped first x f m r None is e h k = absurd cc
mapped first x f m r (Some y) is e h k =
    let same : after_made first.needs first.asked y ≡ m = some_same _ _ h in
    record { first = first; value = x; second = y; made = refl; ended = is; next = e; ends = ap (λ (z : Made _). z.ends) same ∙ k; needs = ap (λ (z : Made _). z.needs) (sym same); asks = ap (λ (z : Made _). z.asked) (sym same) }

pieces_at : {A B : Type 0} (first : Made A) (ends : Result A Error) (f : A → Work B) (m : Made B) (r : Result B Error) → first.ends ≡ ends → go_on first.needs first.asked ends f ≡ Some m → m.ends ≡ r → Pieces (Some first) f m r
pieces_at first (Err e) f m r is h k =
    let same = some_same _ _ h in
    inr (e, sym k ∙ ap (λ (z : Made _). z.ends) (sym same), record { first = first; made = refl; ended = is; needs = ap (λ (z : Made _). z.needs) (sym same); asks = ap (λ (z : Made _). z.asked) (sym same) })
pieces_at first (Ok x) f m r is h k = inl (mapped first x f m r (f x) is refl h k)

pub pieces : {A B : Type 0} (a : Work A) (f : A → Work B) (m : Made B) (r : Result B Error) → (a >>= f) ≡ Some m → m.ends ≡ r → Pieces a f m r
pieces None f m r h k = absurd cc
pieces (Some first) f m r h k = pieces_at first first.ends f m r refl h k

-- work that ends well is two pieces that do
pub bind_ok : {A B : Type 0} (a : Work A) (f : A → Work B) (m : Made B) (b : B) → (a >>= f) ≡ Some m → m.ends ≡ Ok b → Bound a f m (Ok b)
bind_ok a f m b h k = elim (pieces a f m (Ok b) h k) [ inl x ↦ x | inr x ↦ absurd (ok_not_err b x.0 (Ok b) refl x.1) ]

-- work that ends ill is a first piece that does, or two of which the second does
pub bind_err : {A B : Type 0} (a : Work A) (f : A → Work B) (m : Made B) (e : Error) → (a >>= f) ≡ Some m → m.ends ≡ Err e → Bound a f m (Err e) ⊎ Stopped a m e
bind_err {B = B} a f m e h k = elim (pieces a f m (Err e) h k) [
  | inl x ↦ inl x
  | inr x ↦ inr (subst (λ (d : Error). Stopped a m d) (err_same {A = B} x.0 e (Err e) x.1 refl) x.2)
]

-- the needs and the end of a single step
pub step_is : {A : Type 0} (x y : Made A) → Some x ≡ Some y → (y.needs ≡ x.needs) × (y.ends ≡ x.ends)
step_is x y h = (ap (λ (z : Made _). z.needs) (sym (some_same x y h)), ap (λ (z : Made _). z.ends) (sym (some_same x y h)))

-- ---- single steps that end well, or ill

pub or_fail_ok : {A : Type 0} (e : Error) (o : Option A) (m : Made A) (x : A) → or_fail e o ≡ Some m → m.ends ≡ Ok x → (o ≡ Some x) × (m.needs ≡ [])
or_fail_ok e None m x h k = absurd (ok_not_err x e m.ends k (step_is _ m h).1)
or_fail_ok e (Some y) m x h k = (ap (λ (z : _). Some z) (ok_same y x m.ends (step_is _ m h).1 k), (step_is _ m h).0)

pub or_fail_err : {A : Type 0} (e : Error) (o : Option A) (m : Made A) (d : Error) → or_fail e o ≡ Some m → m.ends ≡ Err d → (o ≡ None) × (d ≡ e)
or_fail_err e None m d h k = (refl, err_same d e m.ends k (step_is _ m h).1)
or_fail_err e (Some y) m d h k = absurd (ok_not_err y d m.ends (step_is _ m h).1 k)

pub unless_ok : (o : Option Error) (m : Made (Unit {0})) (x : Unit {0}) → unless_wrong o ≡ Some m → m.ends ≡ Ok x → (o ≡ None) × (m.needs ≡ [])
unless_ok None m x h k = (refl, (step_is _ m h).0)
unless_ok (Some e) m x h k = absurd (ok_not_err x e m.ends k (step_is _ m h).1)

pub unless_err : (o : Option Error) (m : Made (Unit {0})) (e : Error) → unless_wrong o ≡ Some m → m.ends ≡ Err e → o ≡ Some e
unless_err None m e h k = absurd (ok_not_err tt e m.ends (step_is _ m h).1 k)
unless_err (Some d) m e h k = ap (λ (z : Error). Some z) (err_same d e m.ends (step_is _ m h).1 k)

pub result_ok : {A : Type 0} (r : Result A Error) (m : Made A) (x : A) → of_result r ≡ Some m → m.ends ≡ Ok x → (r ≡ Ok x) × (m.needs ≡ [])
result_ok r m x h k = (sym (step_is _ m h).1 ∙ k, (step_is _ m h).0)

pub result_err : {A : Type 0} (r : Result A Error) (m : Made A) (e : Error) → of_result r ≡ Some m → m.ends ≡ Err e → r ≡ Err e
result_err r m e h k = sym (step_is _ m h).1 ∙ k

pub done_is : {A : Type 0} (x y : A) (m : Made A) → end_with x ≡ Some m → m.ends ≡ Ok y → (x ≡ y) × (m.needs ≡ [])
done_is x y m h k = (ok_same x y m.ends (step_is _ m h).1 k, (step_is _ m h).0)

-- what ends well of itself, followed by its answer, does not end ill
pub then_done_not : {B : Type 0} (ns : List Need) (asked : List Ask) (b : B) (m : Made B) (e : Error) → (Some (record { needs = ns; asked = asked; ends = Ok tt }) >>= (λ (x : Unit {0}). end_with b)) ≡ Some m → m.ends ≡ Err e → ⊥
then_done_not ns asked b m e h k = ok_not_err b e m.ends (step_is _ m h).1 k

-- ---- what pieces make

-- work ends so
pub record Ends {A : Type 0} (a : Work A) (r : Result A Error) : Type 0 where
  pub made : Made A
  pub is : a ≡ Some made
  pub ends : made.ends ≡ r

go_well : {A B : Type 0} (ns : List Need) (asked : List Ask) (ends : Result A Error) (f : A → Work B) (x : A) (r : Result B Error) → ends ≡ Ok x → Ends (f x) r → Ends (go_on ns asked ends f) r
go_well ns asked (Err e) f x r h k = absurd (ok_not_err x e (Err e) h refl)
go_well {A = A} {B = B} ns asked (Ok y) f x r h k =
    let same : y ≡ x = ok_same y x (Ok y) refl h in
    record { made = after_made ns asked k.made; is = ap (λ (z : A). option_map (after_made ns asked) (f z)) same ∙ ap (λ (z : Work B). option_map (after_made ns asked) z) k.is; ends = k.ends }

pub then_ends : {A B : Type 0} (a : Work A) (f : A → Work B) (x : A) (r : Result B Error) → Ends a (Ok x) → Ends (f x) r → Ends (a >>= f) r
then_ends a f x r h k = subst (λ (z : Work _). Ends (z >>= f) r) (sym h.is) (go_well h.made.needs h.made.asked h.made.ends f x r h.ends k)

go_ill : {A B : Type 0} (ns : List Need) (asked : List Ask) (ends : Result A Error) (f : A → Work B) (e : Error) → ends ≡ Err e → Ends (go_on ns asked ends f) (Err e)
go_ill ns asked (Err d) f e h = record { made = record { needs = ns; asked = asked; ends = Err d }; is = refl; ends = ap (λ (x : Error). Err x) (err_same d e (Err d) refl h) }
go_ill ns asked (Ok y) f e h = absurd (ok_not_err y e (Ok y) refl h)

pub ill_ends : {A B : Type 0} (a : Work A) (f : A → Work B) (e : Error) → Ends a (Err e) → Ends (a >>= f) (Err e)
ill_ends a f e h = subst (λ (z : Work _). Ends (z >>= f) (Err e)) (sym h.is) (go_ill h.made.needs h.made.asked h.made.ends f e h.ends)

pub at_once : {A : Type 0} (m : Made A) → Ends (Some m) m.ends
at_once m = record { made = m; is = refl; ends = refl }

pub or_fail_ends : {A : Type 0} (e : Error) (o : Option A) (x : A) → o ≡ Some x → Ends (or_fail e o) (Ok x)
or_fail_ends {A} e o x h = subst (λ (z : Option A). Ends (or_fail e z) (Ok x)) (sym h) (at_once _)

pub or_fail_ill : {A : Type 0} (e : Error) (o : Option A) → o ≡ None → Ends (or_fail e o) (Err e)
or_fail_ill {A} e o h = subst (λ (z : Option A). Ends (or_fail e z) (Err e)) (sym h) (at_once _)

pub unless_ends : (o : Option Error) → o ≡ None → Ends (unless_wrong o) (Ok tt)
unless_ends o h = subst (λ (z : Option Error). Ends (unless_wrong z) (Ok tt)) (sym h) (at_once _)

pub unless_ill : (o : Option Error) (e : Error) → o ≡ Some e → Ends (unless_wrong o) (Err e)
unless_ill o e h = subst (λ (z : Option Error). Ends (unless_wrong z) (Err e)) (sym h) (at_once _)
