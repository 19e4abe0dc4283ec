-- What is good is derived, whatever is met on the way.
use Rattle.std.proofs.Common.{◌≡◌, ◌⊎◌, inl, inr, ℕ, zero, suc, Bool, true, false, ◌==◌, ◌||◌, List, [], ◌∷◌, Some, None, Result, Ok, Err, refl, sym, ap, subst, ◌∙◌}
use Rattle.std.specs.List.{AllByRecursion}
use Rattle.std.proofs.lemmas.Bool.{eqb-true, and_parts}
use Rattle.cl_classfile.specs.Files.{Name, File, same_name}
use Rattle.cl_model.specs.Homes.{World, home}
use Rattle.cl_model.specs.declared.class.Class.{Class}
use Rattle.cl_model.specs.Classes.{class, same_class, Error, Above, is_among, NoClassDef, ClassCircularity, read_class, misfit, superclass_of, superinterfaces_of, HasFile, Fitting, FitsAt, Good}
use Rattle.cl_model.specs.Lineages.{Bare, Tree, Kin}
use Rattle.cl_model.specs.States.{Entry}
use Rattle.cl_model.specs.Works.{Work, Made, end_with, need, ask, or_fail, unless_wrong, of_result, ◌>>=◌}
use Rattle.cl_model.specs.Plans.{initiating_needs, load_by, loads_above, derive_new, derive}
use Rattle.cl_model.proofs.Bind.{Ends, then_ends, ill_ends, at_once, or_fail_ends, unless_ends, some_same, ok_same}
use Rattle.cl_model.proofs.Heights.{Reaches, derive_reaches, loaded, found, sought, grown, others_after, checked, finished, interfaces_next, superclass_next, circle_or}
use Rattle.cl_model.proofs.Derived.{derive_yields, load_ok}
use Rattle.cl_model.proofs.Closed.{all_left, all_right}
use Rattle.cl_model.proofs.Runs.{names_equal}

-- a number up to another
abbrev pub Upto : ℕ → ℕ → Type 0
Upto h zero = h ≡ zero
Upto h (suc m) = (h ≡ suc m) ⊎ Upto h m

pub upto_self : (n : ℕ) → Upto n n
upto_self zero = refl
upto_self (suc n) = inl refl

pub upto_then : (h m n : ℕ) → Upto h m → Upto m n → Upto h n
upto_then h m zero a b = subst (λ (x : ℕ). Upto h x) b a
upto_then h m (suc n) a b = elim b [ inl e ↦ subst (λ (x : ℕ). Upto h x) e a | inr k ↦ inr (upto_then h m n a k) ]

pub higher : (w : World) (path : List Class) (c : Class) (h n : ℕ) → Upto h n → Reaches (derive w h path c) (derive w n path c)
higher w path c h zero u m e = subst (λ (x : ℕ). derive w x path c ≡ Some m) u e
higher w path c h (suc n) u m e = elim u [ inl k ↦ subst (λ (x : ℕ). derive w x path c ≡ Some m) k e | inr k ↦ derive_reaches w n path c m (higher w path c h n k m e) ]

-- it ends well, or at a class of these that is good up to a height
abbrev pub Either : {A : Type 0} → World → ℕ → List Class → Work A → Type 0
Either {A} w n path a = ((x : A) × Ends a (Ok x)) ⊎ ((x : Class) × (h : ℕ) × Ends a (Err (ClassCircularity x)) × (is_among path x ≡ true) × Upto h n × Good w h x)

either_then : {A B : Type 0} (w : World) (n : ℕ) (path : List Class) (a : Work A) (f : A → Work B) → Either w n path a → ((x : A) → Ends a (Ok x) → Either w n path (f x)) → Either w n path (a >>= f)
either_then w n path a f (inr h) k = inr (h.0, h.1, ill_ends a f (ClassCircularity h.0) h.2, h.3, h.4, h.5)
either_then w n path a f (inl h) k = elim (k h.0 h.1) [
  | inl r ↦ inl (r.0, then_ends a f h.0 (Ok r.0) h.1 r.1)
  | inr r ↦ inr (r.0, r.1, then_ends a f h.0 (Err (ClassCircularity r.0)) h.1 r.2, r.3, r.4, r.5)
]

-- what is derived below
abbrev pub Derives : World → ℕ → List Class → (Class → Work Kin) → ℕ → Type 0
Derives w n path d m = (s : Class) → Good w m s → Either w n path (d s)

abbrev pub Tells : World → (Class → Work Kin) → Type 0
Tells w d = (s : Class) (m : Made Kin) (k : Kin) → d s ≡ Some m → m.ends ≡ Ok k → (k.class ≡ s) × HasFile w s k.file

then_either : {A B : Type 0} (w : World) (n : ℕ) (path : List Class) (a : Work A) (f : A → Work B) (x : A) → Ends a (Ok x) → Either w n path (f x) → Either w n path (a >>= f)
then_either w n path a f x e h = elim h [
  | inl r ↦ inl (r.0, then_ends a f x (Ok r.0) e r.1)
  | inr r ↦ inr (r.0, r.1, then_ends a f x (Err (ClassCircularity r.0)) e r.2, r.3, r.4, r.5)
]

pub load_either : (w : World) (n m : ℕ) (path : List Class) (d : Class → Work Kin) → Derives w n path d m → (absent : Class → Error) (loader : ℕ) (name : Name) (place : ℕ) → home w loader name ≡ Some place → Good w m (class name place) → Either w n path (load_by w d absent loader name)
load_either w n m path d ih absent loader name place f g =
    then_either w n path (ask loader name) (sought w d absent loader name) tt (at_once _)
    (then_either w n path (or_fail (absent (class name loader)) (home w loader name)) (found w d loader name) place (or_fail_ends (absent (class name loader)) (home w loader name) place f)
    (either_then w n path (d (class name place)) (loaded w loader name place) (ih (class name place) g) (λ k e.
    inl (k, then_ends (need (initiating_needs loader name place)) (λ (b : Unit {0}). end_with k) tt (Ok k) (at_once _) (at_once _)))))

pub fits_still : (w : World) (c : Class) (a : Above) (s : Class) (k : Kin) → Fitting w c a.role None s → k.class ≡ s → HasFile w s k.file → misfit c a.role k.class k.file ≡ None
fits_still w c a s k fit e h =
    ap (λ (x : Class). misfit c a.role x k.file) e ∙ ap (λ (x : File). misfit c a.role s x) (ok_same k.file fit.file (read_class w s) h fit.has_file) ∙ fit.judged

pub above_either : (w : World) (n m : ℕ) (path : List Class) (d : Class → Work Kin) → Derives w n path d m → Tells w d → (c : Class) (others : List Above) → AllByRecursion (FitsAt w c (Good w m)) others → Either w n path (loads_above w d c others)
above_either w n m path d ih tells c [] all = inl (Bare, at_once _)
above_either w n m path d ih tells c (a ∷ others) all =
    either_then w n path (load_by w d NoClassDef c.loader a.name) (checked w d c a others) (load_either w n m path d ih NoClassDef c.loader a.name all.0.place all.0.found all.0.holds.0) (λ k e.
    let l = load_ok w d NoClassDef c.loader a.name e.made k e.is e.ends in
    let t = tells (class a.name l.place) l.below k l.made l.ends in
    let fit = subst (λ (x : ℕ). Fitting w c a.role None (class a.name x)) (some_same _ _ (sym all.0.found ∙ l.found)) all.0.holds.1 in
    then_either w n path (unless_wrong (misfit c a.role k.class k.file)) (others_after w d c others k) tt (unless_ends (misfit c a.role k.class k.file) (fits_still w c a (class a.name l.place) k fit t.0 t.1))
    (either_then w n path (loads_above w d c others) (grown k) (above_either w n m path d ih tells c others all.1) (λ fs e2. inl (Tree k.class k.file k.superclass k.interfaces fs, at_once _))))

new_either : (w : World) (n m : ℕ) (path : List Class) (d : Class → Work Kin) → Derives w n path d m → Tells w d → (c : Class) → Good w (suc m) c → Either w n path (derive_new w d c)
new_either w n m path d ih tells c g =
    then_either w n path (of_result (read_class w c)) (superclass_next w d c) g.0 (record { made = record { needs = []; asked = []; ends = read_class w c }; is = refl; ends = g.1 })
    (either_then w n path (loads_above w d c (superclass_of g.0)) (interfaces_next w d c g.0) (above_either w n m path d ih tells c (superclass_of g.0) (all_left (FitsAt w c (Good w m)) (superclass_of g.0) (superinterfaces_of g.0) g.2)) (λ sup e.
    either_then w n path (loads_above w d c (superinterfaces_of g.0)) (finished c g.0 sup) (above_either w n m path d ih tells c (superinterfaces_of g.0) (all_right (FitsAt w c (Good w m)) (superclass_of g.0) (superinterfaces_of g.0) g.2)) (λ ints e2.
    let k : Kin = record { class = c; file = g.0; superclass = sup; interfaces = ints } in
    inl (k, then_ends (need (Entry c.loader c.name c.loader ∷ [])) (λ (b : Unit {0}). end_with k) tt (Ok k) (at_once _) (at_once _)))))

upto_pred : (n m : ℕ) → Upto (suc n) m → Upto n m
upto_pred n zero h = absurd (let e : suc n ≡ zero = h in cc)
upto_pred n (suc m) h = elim h [ inl e ↦ inr (let same : n ≡ m = suc_is n m e in subst (λ (x : ℕ). Upto n x) same (upto_self n)) | inr k ↦ inr (upto_pred n m k) ]
  where
    suc_is : (a b : ℕ) → suc a ≡ suc b → a ≡ b
    suc_is a b e = cc

pub upto_less : (n b : ℕ) → Upto (suc n) (suc b) → Upto n b
upto_less n b h = elim h [ inl e ↦ (let same : n ≡ b = cc in subst (λ (x : ℕ). Upto n x) same (upto_self n)) | inr k ↦ upto_pred n b k ]

pub is_class : (x c : Class) → same_class x c ≡ true → x ≡ c
is_class x c h =
    let both : (same_name x.name c.name ≡ true) × ((x.loader == c.loader) ≡ true) = and_parts (same_name x.name c.name) (x.loader == c.loader) h in
    ap (λ (n : Name). class n x.loader) (names_equal x.name c.name both.0) ∙ ap (λ (l : ℕ). class c.name l) (eqb-true x.loader c.loader both.1)

-- of two tests one holds
pub or_true : (a b : Bool) → (a || b) ≡ true → (a ≡ true) ⊎ (b ≡ true)
or_true true b h = inl refl
or_true false b h = inr h

-- the whole derivation ends as the new one does, where the class is not met again
pub passed : (w : World) (n : ℕ) (path : List Class) (c : Class) (r : Result Kin Error) → is_among path c ≡ false → Ends (derive_new w (derive w n (c ∷ path)) c) r → Ends (derive w (suc n) path c) r
passed w n path c r e h =
    then_ends (ask c.loader c.name) (λ (a : Unit {0}). circle_or c (derive_new w (derive w n (c ∷ path)) c) (is_among path c)) tt r (at_once _)
    (subst (λ (t : Bool). Ends (circle_or c (derive_new w (derive w n (c ∷ path)) c) t) r) (sym e) h)

pub circled : (w : World) (n : ℕ) (path : List Class) (c : Class) → is_among path c ≡ true → Ends (derive w (suc n) path c) (Err (ClassCircularity c))
circled w n path c e =
    then_ends (ask c.loader c.name) (λ (a : Unit {0}). circle_or c (derive_new w (derive w n (c ∷ path)) c) (is_among path c)) tt (Err (ClassCircularity c)) (at_once _)
    (subst (λ (t : Bool). Ends (circle_or c (derive_new w (derive w n (c ∷ path)) c) t) (Err (ClassCircularity c))) (sym e) (at_once _))

-- the same at a greater height
raised : (w : World) (path : List Class) (c : Class) (h n : ℕ) → Upto h n → Either w h path (derive w h path c) → Either w n path (derive w n path c)
raised w path c h n u (inl k) = inl (k.0, record { made = k.1.made; is = higher w path c h n u k.1.made k.1.is; ends = k.1.ends })
raised w path c h n u (inr k) = inr (k.0, k.1, record { made = k.2.made; is = higher w path c h n u k.2.made k.2.is; ends = k.2.ends }, k.3, upto_then k.1 h n k.4 u, k.5)

-- a class on the way that is met again is good at a lower height already
settled : (w : World) (n : ℕ) (path : List Class) (c : Class) → ((h : ℕ) → Upto h n → Good w h c → Either w h path (derive w h path c)) → Good w (suc n) c → Either w n (c ∷ path) (derive_new w (derive w n (c ∷ path)) c) → (t : Bool) → is_among path c ≡ t → Either w (suc n) path (derive w (suc n) path c)
settled w n path c lower g e true t = inr (c, suc n, circled w n path c t, t, upto_self (suc n), g)
settled w n path c lower g (inl h) false t = inl (h.0, passed w n path c (Ok h.0) t h.1)
settled w n path c lower g (inr h) false t = elim (or_true (same_class h.0 c) (is_among path h.0) h.3) [
  | inl s ↦ raised w path c h.1 (suc n) (inr h.4) (lower h.1 h.4 (subst (λ (x : Class). Good w h.1 x) (is_class h.0 c s) h.5))
  | inr s ↦ inr (h.0, h.1, passed w n path c (Err (ClassCircularity h.0)) t h.2, s, inr h.4, h.5)
]

-- what is good up to a bound ends so
pub all_either : (w : World) (bound n : ℕ) (path : List Class) (c : Class) → Upto n bound → Good w n c → Either w n path (derive w n path c)
all_either w bound zero path c u g = absurd g
all_either w zero (suc n) path c u g = absurd (let e : suc n ≡ zero = u in cc)
all_either w (suc b) (suc n) path c u g =
    let below = upto_less n b u in
    settled w n path c (λ h v gh. all_either w b h path c (upto_then h n b v below) gh) g
    (new_either w n n (c ∷ path) (derive w n (c ∷ path)) (λ s gs. all_either w b n (c ∷ path) s below gs) (λ s m k h e. let y = derive_yields w n (c ∷ path) s m k h e in (y.1, y.2)) c g)
    (is_among path c) refl

pub good_is_derived : (w : World) (n : ℕ) (c : Class) → Good w n c → (m : Made Kin) × (k : Kin) × (derive w n [] c ≡ Some m) × (m.ends ≡ Ok k)
good_is_derived w n c g = elim (all_either w n n [] c (upto_self n) g) [
  | inl h ↦ (h.1.made, h.0, h.1.is, h.1.ends)
  | inr h ↦ absurd (let e : false ≡ true = h.3 in cc)
]
