-- What fails is derived to its error, whatever is met on the way.
use Rattle.std.proofs.Common.{◌≡◌, ◌⊎◌, inl, inr, ℕ, zero, suc, Bool, true, false, List, [], ◌∷◌, ◌++◌, Option, Some, None, Ok, Err, refl, sym, ap, subst, ◌∙◌}
use Rattle.std.specs.List.{AllByRecursion}
use Rattle.cl_classfile.specs.Files.{Name, File}
use Rattle.cl_model.specs.Homes.{World, home}
use Rattle.cl_model.specs.declared.class.Class.{Class}
use Rattle.cl_model.specs.Classes.{class, same_class, Error, Above, is_among, NoClassDef, ClassCircularity, read_class, misfit, superclass_of, superinterfaces_of, HasFile, Fitting, FitsAt, Good, FirstWrong, WrongAt, Fails}
use Rattle.cl_model.specs.Lineages.{Kin}
use Rattle.cl_model.specs.Works.{Work, Made, ask, or_fail, unless_wrong, of_result, ◌>>=◌}
use Rattle.cl_model.specs.Plans.{load_by, loads_above, derive_new, derive}
use Rattle.cl_model.proofs.Bind.{Ends, then_ends, ill_ends, at_once, or_fail_ends, or_fail_ill, unless_ends, unless_ill, some_same, ok_same}
use Rattle.cl_model.proofs.Heights.{loaded, found, sought, grown, others_after, checked, finished, interfaces_next, superclass_next}
use Rattle.cl_model.proofs.Derived.{derive_yields, load_ok}
use Rattle.cl_model.proofs.Derivations.{good_or_fails, one_error}
use Rattle.cl_model.proofs.Complete.{Upto, upto_self, upto_then, upto_less, higher, Either, Derives, Tells, load_either, above_either, all_either, is_class, or_true, passed, circled}

-- a class comes out at a height: it is good, or fails
abbrev pub Comes : World → ℕ → Class → Type 0
Comes w n c = Good w n c ⊎ ((e : Error) × Fails w n c e)

-- a class of these is met again that comes out up to a height
abbrev pub Circled : {A : Type 0} → World → ℕ → List Class → Work A → Type 0
Circled w n path a = (x : Class) × (h : ℕ) × Ends a (Err (ClassCircularity x)) × (is_among path x ≡ true) × Upto h n × Comes w h x

-- it ends in this error, or at such a class
abbrev pub FailsSo : {A : Type 0} → World → ℕ → List Class → Work A → Error → Type 0
FailsSo w n path a e = Ends a (Err e) ⊎ Circled w n path a

ill_then : {A B : Type 0} (w : World) (n : ℕ) (path : List Class) (a : Work A) (f : A → Work B) (e : Error) → FailsSo w n path a e → FailsSo w n path (a >>= f) e
ill_then w n path a f e (inl h) = inl (ill_ends a f e h)
ill_then w n path a f e (inr h) = inr (h.0, h.1, ill_ends a f (ClassCircularity h.0) h.2, h.3, h.4, h.5)

well_then : {A B : Type 0} (w : World) (n : ℕ) (path : List Class) (a : Work A) (f : A → Work B) (x : A) (e : Error) → Ends a (Ok x) → FailsSo w n path (f x) e → FailsSo w n path (a >>= f) e
well_then w n path a f x e h (inl k) = inl (then_ends a f x (Err e) h k)
well_then w n path a f x e h (inr k) = inr (k.0, k.1, then_ends a f x (Err (ClassCircularity k.0)) h k.2, k.3, k.4, k.5)

either_then : {A B : Type 0} (w : World) (n : ℕ) (path : List Class) (a : Work A) (f : A → Work B) (e : Error) → Either w n path a → ((x : A) → Ends a (Ok x) → FailsSo w n path (f x) e) → FailsSo w n path (a >>= f) e
either_then w n path a f e (inl h) k = well_then w n path a f h.0 e h.1 (k h.0 h.1)
either_then w n path a f e (inr h) k = inr (h.0, h.1, ill_ends a f (ClassCircularity h.0) h.2, h.3, h.4, inl h.5)

-- what fails below
abbrev FailsBelow : World → ℕ → List Class → (Class → Work Kin) → ℕ → Error → Type 0
FailsBelow w n path d m e = (s : Class) → Fails w m s e → FailsSo w n path (d s) e

load_fails : (w : World) (n m : ℕ) (path : List Class) (d : Class → Work Kin) (e : Error) → FailsBelow w n path d m e → (absent : Class → Error) (loader : ℕ) (name : Name) (place : ℕ) → home w loader name ≡ Some place → Fails w m (class name place) e → FailsSo w n path (load_by w d absent loader name) e
load_fails w n m path d e ih absent loader name place f g =
    well_then w n path (ask loader name) (sought w d absent loader name) tt e (at_once _)
    (well_then w n path (or_fail (absent (class name loader)) (home w loader name)) (found w d loader name) place e (or_fail_ends (absent (class name loader)) (home w loader name) place f)
    (ill_then w n path (d (class name place)) (loaded w loader name place) e (ih (class name place) g)))

pub load_absent : (w : World) (d : Class → Work Kin) (absent : Class → Error) (loader : ℕ) (name : Name) → home w loader name ≡ None → Ends (load_by w d absent loader name) (Err (absent (class name loader)))
load_absent w d absent loader name h =
    then_ends (ask loader name) (sought w d absent loader name) tt (Err (absent (class name loader))) (at_once _)
    (ill_ends (or_fail (absent (class name loader)) (home w loader name)) (found w d loader name) (absent (class name loader)) (or_fail_ill (absent (class name loader)) (home w loader name) h))

-- a supertype that is loaded is judged as its file says
pub judged_still : (w : World) (c : Class) (a : Above) (s : Class) (k : Kin) (o : Option Error) → Fitting w c a.role o s → k.class ≡ s → HasFile w s k.file → misfit c a.role k.class k.file ≡ o
judged_still w c a s k o fit e h =
    ap (λ (x : Class). misfit c a.role x k.file) e ∙ ap (λ (x : File). misfit c a.role s x) (ok_same k.file fit.file (read_class w s) h fit.has_file) ∙ fit.judged

above_fails : (w : World) (n m : ℕ) (path : List Class) (d : Class → Work Kin) (e : Error) → Derives w n path d m → FailsBelow w n path d m e → Tells w d → (c : Class) (others : List Above) → FirstWrong (FitsAt w c (Good w m)) (WrongAt w c (Good w m) (λ s. Fails w m s e) e) others → FailsSo w n path (loads_above w d c others) e
above_fails w n m path d e good ih tells c [] h = absurd h
above_fails w n m path d e good ih tells c (a ∷ others) (inl (inl h)) =
    ill_then w n path (load_by w d NoClassDef c.loader a.name) (checked w d c a others) e (inl (subst (λ (x : Error). Ends (load_by w d NoClassDef c.loader a.name) (Err x)) (sym h.1) (load_absent w d NoClassDef c.loader a.name h.0)))
above_fails w n m path d e good ih tells c (a ∷ others) (inl (inr (inl h))) =
    ill_then w n path (load_by w d NoClassDef c.loader a.name) (checked w d c a others) e (load_fails w n m path d e ih NoClassDef c.loader a.name h.place h.found h.holds)
above_fails w n m path d e good ih tells c (a ∷ others) (inl (inr (inr h))) =
    either_then w n path (load_by w d NoClassDef c.loader a.name) (checked w d c a others) e (load_either w n m path d good NoClassDef c.loader a.name h.place h.found h.holds.0) (λ k x.
    let l = load_ok w d NoClassDef c.loader a.name x.made k x.is x.ends in
    let t = tells (class a.name l.place) l.below k l.made l.ends in
    let fit = subst (λ (y : ℕ). Fitting w c a.role (Some e) (class a.name y)) (some_same _ _ (sym h.found ∙ l.found)) h.holds.1 in
    ill_then w n path (unless_wrong (misfit c a.role k.class k.file)) (others_after w d c others k) e (inl (unless_ill (misfit c a.role k.class k.file) e (judged_still w c a (class a.name l.place) k (Some e) fit t.0 t.1))))
above_fails w n m path d e good ih tells c (a ∷ others) (inr h) =
    either_then w n path (load_by w d NoClassDef c.loader a.name) (checked w d c a others) e (load_either w n m path d good NoClassDef c.loader a.name h.0.place h.0.found h.0.holds.0) (λ k x.
    let l = load_ok w d NoClassDef c.loader a.name x.made k x.is x.ends in
    let t = tells (class a.name l.place) l.below k l.made l.ends in
    let fit = subst (λ (y : ℕ). Fitting w c a.role None (class a.name y)) (some_same _ _ (sym h.0.found ∙ l.found)) h.0.holds.1 in
    well_then w n path (unless_wrong (misfit c a.role k.class k.file)) (others_after w d c others k) tt e (unless_ends (misfit c a.role k.class k.file) (judged_still w c a (class a.name l.place) k None fit t.0 t.1))
    (ill_then w n path (loads_above w d c others) (grown k) e (above_fails w n m path d e good ih tells c others h.1)))

-- the first wrong of a list of two parts
pub wrong_split : (fits wrong : Above → Type 0) (xs ys : List Above) → FirstWrong fits wrong (xs ++ ys) → FirstWrong fits wrong xs ⊎ (AllByRecursion fits xs × FirstWrong fits wrong ys)
wrong_split fits wrong [] ys h = inr (tt, h)
wrong_split fits wrong (x ∷ xs) ys (inl h) = inl (inl h)
wrong_split fits wrong (x ∷ xs) ys (inr h) = elim (wrong_split fits wrong xs ys h.1) [ inl k ↦ inl (inr (h.0, k)) | inr k ↦ inr ((h.0, k.0), k.1) ]

new_fails : (w : World) (n m : ℕ) (path : List Class) (d : Class → Work Kin) (e : Error) → Derives w n path d m → FailsBelow w n path d m e → Tells w d → (c : Class) → Fails w (suc m) c e → FailsSo w n path (derive_new w d c) e
new_fails w n m path d e good ih tells c (inl h) =
    ill_then w n path (of_result (read_class w c)) (superclass_next w d c) e (inl (record { made = record { needs = []; asked = []; ends = read_class w c }; is = refl; ends = h }))
new_fails w n m path d e good ih tells c (inr h) =
    let fits = FitsAt w c (Good w m) in
    let wrong = WrongAt w c (Good w m) (λ s. Fails w m s e) e in
    well_then w n path (of_result (read_class w c)) (superclass_next w d c) h.0 e (record { made = record { needs = []; asked = []; ends = read_class w c }; is = refl; ends = h.1 })
    (elim (wrong_split fits wrong (superclass_of h.0) (superinterfaces_of h.0) h.2) [
      | inl k ↦ ill_then w n path (loads_above w d c (superclass_of h.0)) (interfaces_next w d c h.0) e (above_fails w n m path d e good ih tells c (superclass_of h.0) k)
      | inr k ↦ either_then w n path (loads_above w d c (superclass_of h.0)) (interfaces_next w d c h.0) e (above_either w n m path d good tells c (superclass_of h.0) k.0) (λ sup x.
          ill_then w n path (loads_above w d c (superinterfaces_of h.0)) (finished c h.0 sup) e (above_fails w n m path d e good ih tells c (superinterfaces_of h.0) k.1))
    ])

-- the same at a greater height
raised : (w : World) (path : List Class) (c : Class) (e : Error) (h n : ℕ) → Upto h n → FailsSo w h path (derive w h path c) e → FailsSo w n path (derive w n path c) e
raised w path c e h n u (inl k) = inl (record { made = k.made; is = higher w path c h n u k.made k.is; ends = k.ends })
raised w path c e h n u (inr k) = inr (k.0, k.1, record { made = k.2.made; is = higher w path c h n u k.2.made k.2.is; ends = k.2.ends }, k.3, upto_then k.1 h n k.4 u, k.5)

-- the class itself is met again: it is not good, and fails at a lower height already
again : (w : World) (n : ℕ) (path : List Class) (c : Class) (e : Error) (h : ℕ) → Upto h n → ((k : ℕ) → Upto k n → Fails w k c e → FailsSo w k path (derive w k path c) e) → Fails w (suc n) c e → Comes w h c → FailsSo w (suc n) path (derive w (suc n) path c) e
again w n path c e h u lower f (inl g) = absurd (good_or_fails w h (suc n) c e g f)
again w n path c e h u lower f (inr g) = raised w path c e h (suc n) (inr u) (lower h u (subst (λ (x : Error). Fails w h c x) (one_error w h (suc n) c g.0 e g.1 f) g.1))

settled : (w : World) (n : ℕ) (path : List Class) (c : Class) (e : Error) → ((h : ℕ) → Upto h n → Fails w h c e → FailsSo w h path (derive w h path c) e) → Fails w (suc n) c e → FailsSo w n (c ∷ path) (derive_new w (derive w n (c ∷ path)) c) e → (t : Bool) → is_among path c ≡ t → FailsSo w (suc n) path (derive w (suc n) path c) e
settled w n path c e lower f h true t = inr (c, suc n, circled w n path c t, t, upto_self (suc n), inr (e, f))
settled w n path c e lower f (inl h) false t = inl (passed w n path c (Err e) t h)
settled w n path c e lower f (inr h) false t = elim (or_true (same_class h.0 c) (is_among path h.0) h.3) [
  | inl s ↦ again w n path c e h.1 h.4 lower f (subst (λ (x : Class). Comes w h.1 x) (is_class h.0 c s) h.5)
  | inr s ↦ inr (h.0, h.1, passed w n path c (Err (ClassCircularity h.0)) t h.2, s, inr h.4, h.5)
]

pub all_fails : (w : World) (bound n : ℕ) (path : List Class) (c : Class) (e : Error) → Upto n bound → Fails w n c e → FailsSo w n path (derive w n path c) e
all_fails w bound zero path c e u f = absurd f
all_fails w zero (suc n) path c e u f = absurd (let h : suc n ≡ zero = u in cc)
all_fails w (suc b) (suc n) path c e u f =
    let below = upto_less n b u in
    settled w n path c e (λ h v fh. all_fails w b h path c e (upto_then h n b v below) fh) f
    (new_fails w n n (c ∷ path) (derive w n (c ∷ path)) e (λ s gs. all_either w n n (c ∷ path) s (upto_self n) gs) (λ s fs. all_fails w b n (c ∷ path) s e below fs) (λ s m k h x. let y = derive_yields w n (c ∷ path) s m k h x in (y.1, y.2)) c f)
    (is_among path c) refl

pub fails_is_derived : (w : World) (n : ℕ) (c : Class) (e : Error) → Fails w n c e → (m : Made Kin) × (derive w n [] c ≡ Some m) × (m.ends ≡ Err e)
fails_is_derived w n c e f = elim (all_fails w n n [] c e (upto_self n) f) [
  | inl h ↦ (h.made, h.is, h.ends)
  | inr h ↦ absurd (let x : false ≡ true = h.3 in cc)
]
