-- What work comes to in a state: a need that is next, an error with all needs before it met, or something that it asks.
use Rattle.std.proofs.Common.{◌≡◌, inl, inr, ℕ, List, [], ◌∷◌, ◌++◌, Option, Some, None, Result, Ok, Err, refl, sym, ap, subst, ◌∙◌}
use Rattle.cl_classfile.specs.Files.{Name, File}
use Rattle.cl_model.specs.Classes.{Error}
use Rattle.cl_model.specs.States.{State, Need, AllMet, IsNext}
use Rattle.cl_model.specs.Works.{Work, Made, Ask, ask, need, or_fail, unless_wrong, of_result, ◌>>=◌}
use Rattle.cl_model.proofs.Bind.{pieces, some_same, step_is, ok_same, err_same, ok_not_err}
use Rattle.cl_model.proofs.Closed.{met_both}
use Rattle.cl_model.proofs.Marks.{In, in_left, in_right}

-- ---- what work comes to: a need that is next, an error with all before it met, or something that is asked

pub data Aim : Type 0 where
  NextIs : (need : Need) → Aim
  EndsIn : (error : Error) → Aim
  AsksFor : (ask : Ask) → Aim

abbrev pub Hits : {A : Type 0} → State → Aim → Made A → Type 0
Hits s (NextIs n) m = IsNext s m.needs n
Hits s (EndsIn e) m = AllMet s m.needs × (m.ends ≡ Err e)
Hits s (AsksFor a) m = In a m.asked

-- all needs are met, and it ends well, in what is so
pub record Well {A : Type 0} (s : State) (P : A → Type 0) (m : Made A) : Type 0 where
  pub value : A
  pub ends : m.ends ≡ Ok value
  pub met : AllMet s m.needs
  pub holds : P value

-- whatever the work makes, if a height suffices
abbrev pub Every : {A : Type 0} → Work A → (Made A → Type 0) → Type 0
Every {A} a P = (m : Made A) → a ≡ Some m → P m

abbrev pub Any : {A : Type 0} → A → Type 0
Any x = Unit {0}

pub next_left : (s : State) (xs ys : List Need) (n : Need) → IsNext s xs n → IsNext s (xs ++ ys) n
next_left s [] ys n h = absurd h
next_left s (x ∷ xs) ys n (inl e) = inl e
next_left s (x ∷ xs) ys n (inr h) = inr (h.0, next_left s xs ys n h.1)

pub next_right : (s : State) (xs ys : List Need) (n : Need) → AllMet s xs → IsNext s ys n → IsNext s (xs ++ ys) n
next_right s [] ys n met h = h
next_right s (x ∷ xs) ys n met h = inr (met.0, next_right s xs ys n met.1 h)

pub hits_after : {B : Type 0} (s : State) (g : Aim) (ns : List Need) (before : List Ask) (k m : Made B) → m.needs ≡ ns ++ k.needs → m.asked ≡ before ++ k.asked → k.ends ≡ m.ends → AllMet s ns → Hits s g k → Hits s g m
hits_after s (NextIs n) ns before k m p z q met c = subst (λ (l : List Need). IsNext s l n) (sym p) (next_right s ns k.needs n met c)
hits_after s (EndsIn e) ns before k m p z q met c = (subst (λ (l : List Need). AllMet s l) (sym p) (met_both s ns k.needs met c.0), sym q ∙ c.1)
hits_after s (AsksFor a) ns before k m p z q met c = subst (λ (l : List Ask). In a l) (sym z) (in_right a before k.asked c)

pub hits_before : {A B : Type 0} (s : State) (g : Aim) (k : Made A) (m : Made B) (more : List Need) (behind : List Ask) (x : A) → m.needs ≡ k.needs ++ more → m.asked ≡ k.asked ++ behind → k.ends ≡ Ok x → Hits s g k → Hits s g m
hits_before s (NextIs n) k m more behind x p z q c = subst (λ (l : List Need). IsNext s l n) (sym p) (next_left s k.needs more n c)
hits_before s (EndsIn e) k m more behind x p z q c = absurd (ok_not_err x e k.ends q c.1)
hits_before s (AsksFor a) k m more behind x p z q c = subst (λ (l : List Ask). In a l) (sym z) (in_left a k.asked behind c)

pub hits_stopped : {A B : Type 0} (s : State) (g : Aim) (k : Made A) (m : Made B) (d : Error) → m.needs ≡ k.needs → m.asked ≡ k.asked → k.ends ≡ Err d → m.ends ≡ Err d → Hits s g k → Hits s g m
hits_stopped s (NextIs n) k m d p z q r c = subst (λ (l : List Need). IsNext s l n) (sym p) c
hits_stopped s (EndsIn e) k m d p z q r c = (subst (λ (l : List Need). AllMet s l) (sym p) c.0, r ∙ ap (λ (z : Error). Err z) (err_same d e k.ends q c.1))
hits_stopped s (AsksFor a) k m d p z q r c = subst (λ (l : List Ask). In a l) (sym z) c

pub well_after : {B : Type 0} (s : State) (Q : B → Type 0) (ns : List Need) (k m : Made B) → m.needs ≡ ns ++ k.needs → k.ends ≡ m.ends → AllMet s ns → Well s Q k → Well s Q m
well_after s Q ns k m p q met c = record { value = c.value; ends = sym q ∙ c.ends; met = subst (λ (l : List Need). AllMet s l) (sym p) (met_both s ns k.needs met c.met); holds = c.holds }

pub then_hits : {A B : Type 0} (s : State) (g : Aim) (a : Work A) (f : A → Work B) (P : A → Type 0) → Every a (Well s P) → ((x : A) → P x → Every (f x) (Hits s g)) → Every (a >>= f) (Hits s g)
then_hits s g a f P h k m e = elim (pieces a f m m.ends e refl) [
  | inl b ↦ (let x = h b.first b.made in
      hits_after s g b.first.needs b.first.asked b.second m b.needs b.asks b.ends x.met (k b.value (subst P (ok_same x.value b.value b.first.ends x.ends b.ended) x.holds) b.second b.next))
  | inr z ↦ (let x = h z.2.first z.2.made in absurd (ok_not_err x.value z.0 z.2.first.ends x.ends z.2.ended))
]

pub then_well : {A B : Type 0} (s : State) (a : Work A) (f : A → Work B) (P : A → Type 0) (Q : B → Type 0) → Every a (Well s P) → ((x : A) → P x → Every (f x) (Well s Q)) → Every (a >>= f) (Well s Q)
then_well s a f P Q h k m e = elim (pieces a f m m.ends e refl) [
  | inl b ↦ (let x = h b.first b.made in
      well_after s Q b.first.needs b.second m b.needs b.ends x.met (k b.value (subst P (ok_same x.value b.value b.first.ends x.ends b.ended) x.holds) b.second b.next))
  | inr z ↦ (let x = h z.2.first z.2.made in absurd (ok_not_err x.value z.0 z.2.first.ends x.ends z.2.ended))
]

pub first_hits : {A B : Type 0} (s : State) (g : Aim) (a : Work A) (f : A → Work B) → Every a (Hits s g) → Every (a >>= f) (Hits s g)
first_hits s g a f h m e = elim (pieces a f m m.ends e refl) [
  | inl b ↦ hits_before s g b.first m b.second.needs b.second.asked b.value b.needs b.asks b.ended (h b.first b.made)
  | inr z ↦ hits_stopped s g z.2.first m z.0 z.2.needs z.2.asks z.2.ended z.1 (h z.2.first z.2.made)
]

-- ---- single steps

pub well_once : {A : Type 0} (s : State) (P : A → Type 0) (k : Made A) (x : A) → k.ends ≡ Ok x → AllMet s k.needs → P x → Every (Some k) (Well s P)
well_once s P k x q n p m e = let is = step_is k m e in record { value = x; ends = is.1 ∙ q; met = subst (λ (l : List Need). AllMet s l) (sym is.0) n; holds = p }

pub hits_once : {A : Type 0} (s : State) (k : Made A) (d : Error) → k.ends ≡ Err d → AllMet s k.needs → Every (Some k) (Hits s (EndsIn d))
hits_once s k d q n m e = let is = step_is k m e in (subst (λ (l : List Need). AllMet s l) (sym is.0) n, is.1 ∙ q)

pub ask_well : (s : State) (loader : ℕ) (name : Name) → Every (ask loader name) (Well s Any)
ask_well s loader name = well_once s Any _ tt refl tt tt

pub or_fail_well : {A : Type 0} (s : State) (e : Error) (o : Option A) (x : A) → o ≡ Some x → Every (or_fail e o) (Well s (λ y. y ≡ x))
or_fail_well {A} s e o x h = subst (λ (z : Option A). Every (or_fail e z) (Well s (λ y. y ≡ x))) (sym h) (well_once s (λ y. y ≡ x) _ x refl tt refl)

pub or_fail_hits : {A : Type 0} (s : State) (e : Error) (o : Option A) → o ≡ None → Every (or_fail e o) (Hits s (EndsIn e))
or_fail_hits {A} s e o h = subst (λ (z : Option A). Every (or_fail e z) (Hits s (EndsIn e))) (sym h) (hits_once s _ e refl tt)

pub unless_well : (s : State) (o : Option Error) → o ≡ None → Every (unless_wrong o) (Well s Any)
unless_well s o h = subst (λ (z : Option Error). Every (unless_wrong z) (Well s Any)) (sym h) (well_once s Any _ tt refl tt tt)

pub unless_hits : (s : State) (o : Option Error) (e : Error) → o ≡ Some e → Every (unless_wrong o) (Hits s (EndsIn e))
unless_hits s o e h = subst (λ (z : Option Error). Every (unless_wrong z) (Hits s (EndsIn e))) (sym h) (hits_once s _ e refl tt)

pub read_well : (s : State) (r : Result File Error) (f : File) → r ≡ Ok f → Every (of_result r) (Well s (λ y. y ≡ f))
read_well s r f h = well_once s (λ y. y ≡ f) _ f h tt refl

pub read_hits : (s : State) (r : Result File Error) (e : Error) → r ≡ Err e → Every (of_result r) (Hits s (EndsIn e))
read_hits s r e h = hits_once s _ e h tt

pub need_next : (s : State) (n : Need) (m : Made (Unit {0})) → need (n ∷ []) ≡ Some m → IsNext s m.needs n
need_next s n m e = subst (λ (l : List Need). IsNext s l n) (sym (step_is _ m e).0) (inl refl)

pub ask_hits : (s : State) (loader : ℕ) (name : Name) → Every (ask loader name) (Hits s (AsksFor (record { loader = loader; name = name })))
ask_hits s loader name m e = let a : Ask = record { loader = loader; name = name } in subst (λ (k : Made (Unit {0})). In a k.asked) (some_same _ m e) (inl refl)
