-- Over a finite content each derivation ends, and so does each plan; two heights that give one give the same.
use Rattle.std.proofs.Common.{◌≡◌, ◌⊎◌, inl, inr, ℕ, zero, suc, ◌<◌, ◌≤◌, Bool, true, false, ◌==◌, ◌&&◌, ◌||◌, if◌then◌else◌, List, [], ◌∷◌, Option, Some, None, Result, Ok, Err, refl, sym, ap, subst, ◌∙◌, arith, nat_eq}
use Rattle.std.specs.Prelude.{option_map}
use Rattle.std.specs.Cmp.Lexicographic.{pointwise}
use Rattle.std.proofs.lemmas.Bool.{eqb-true, and_parts, and_from}
use Rattle.cl_classfile.specs.Files.{Name, File, same_name}
use Rattle.cl_model.specs.Content.{Content, Stored, content_at}
use Rattle.cl_model.specs.Homes.{World, home}
use Rattle.cl_model.specs.declared.class.Class.{Class}
use Rattle.cl_model.specs.Classes.{class, same_class, Error, Above, is_among, NoClassDef, IsAtHome, is_own, bytes_of, read_found, read_class, misfit, superclass_of, superinterfaces_of, HasFile, Good, IsGood, Fails, Circular, Next, Returns}
use Rattle.cl_model.specs.Lineages.{Kin}
use Rattle.cl_model.specs.States.{Need}
use Rattle.cl_model.specs.Works.{Work, Made, Ask, ask, or_fail, unless_wrong, of_result, after_made, go_on, ◌>>=◌}
use Rattle.cl_model.specs.Plans.{load_by, loads_above, derive_new, derive}
use Rattle.cl_model.proofs.Bind.{Ends, some_same}
use Rattle.cl_model.proofs.Heights.{loaded, found, sought, grown, others_after, checked, finished, interfaces_next, superclass_next, circle_or}
use Rattle.cl_model.proofs.Derived.{derive_yields}
use Rattle.cl_model.proofs.Complete.{is_class}
use Rattle.cl_model.proofs.Circles.{return_next}
use Rattle.cl_model.proofs.Obstacles.{derive_err}

-- ---- what has a file is at home, and in the content

pub if_some : {A : Type 0} (b : Bool) (o : Option A) (x : A) → (if b then o else None) ≡ Some x → (b ≡ true) × (o ≡ Some x)
if_some true o x h = (refl, h)
if_some false o x h = absurd cc

ok_found : (w : World) (c : Class) (o : Option (List ℕ)) (f : File) → read_found w c o ≡ Ok f → (b : List ℕ) × (o ≡ Some b)
ok_found w c None f h = absurd cc
ok_found w c (Some b) f h = (b, refl)

own_is : (loader : ℕ) (o : Option ℕ) → is_own loader o ≡ true → o ≡ Some loader
own_is loader None h = absurd cc
own_is loader (Some place) h = ap (λ (x : ℕ). Some x) (eqb-true place loader h)

pub file_stored : (w : World) (c : Class) (f : File) → HasFile w c f → (is_own c.loader (home w c.loader c.name) ≡ true) × ((b : List ℕ) × (content_at w.content c.loader c.name ≡ Some b))
file_stored w c f h =
    let bytes = ok_found w c (bytes_of w c) f h in
    let both = if_some (is_own c.loader (home w c.loader c.name)) (content_at w.content c.loader c.name) bytes.0 bytes.1 in
    (both.0, (bytes.0, both.1))

pub file_at_home : (w : World) (c : Class) (f : File) → HasFile w c f → IsAtHome w c
file_at_home w c f h = own_is c.loader (home w c.loader c.name) (file_stored w c f h).0

pub good_at_home : (w : World) (n : ℕ) (c : Class) → Good w n c → IsAtHome w c
good_at_home w zero c g = absurd g
good_at_home w (suc n) c g = file_at_home w c g.0 g.1

-- ---- how much of the content is not on the path

abbrev left : List Class → Content → ℕ
left path [] = 0
left path (e ∷ es) = if is_among path (class e.name e.loader) then left path es else suc (left path es)

le_step : (s t : Bool) (a b : ℕ) → a ≤ b → (if s || t then a else suc a) ≤ (if t then b else suc b)
le_step true true a b h = h
le_step true false a b h = omega arith
le_step false true a b h = h
le_step false false a b h = omega arith

less_step : (s t : Bool) (a b : ℕ) → a < b → (if s || t then a else suc a) < (if t then b else suc b)
less_step true true a b h = h
less_step true false a b h = omega arith
less_step false true a b h = h
less_step false false a b h = omega arith

found_step : (s t : Bool) (a b : ℕ) → s ≡ true → t ≡ false → a ≤ b → (if s || t then a else suc a) < (if t then b else suc b)
found_step s true a b p q h = absurd cc
found_step false false a b p q h = absurd cc
found_step true false a b p q h = omega arith

left_le : (path : List Class) (c : Class) (es : Content) → left (c ∷ path) es ≤ left path es
left_le path c [] = omega arith
left_le path c (e ∷ es) = le_step (same_class (class e.name e.loader) c) (is_among path (class e.name e.loader)) (left (c ∷ path) es) (left path es) (left_le path c es)

less_at : (path : List Class) (c : Class) (e : Stored) (es : Content) (b : List ℕ) → (content_at es c.loader c.name ≡ Some b → left (c ∷ path) es < left path es) → is_among path c ≡ false → (t : Bool) → ((e.loader == c.loader) && pointwise nat_eq e.name c.name) ≡ t → (if t then Some e.bytes else content_at es c.loader c.name) ≡ Some b → left (c ∷ path) (e ∷ es) < left path (e ∷ es)
less_at path c e es b ih k false p q = less_step (same_class (class e.name e.loader) c) (is_among path (class e.name e.loader)) (left (c ∷ path) es) (left path es) (ih q)
less_at path c e es b ih k true p q =
    let both = and_parts (e.loader == c.loader) (pointwise nat_eq e.name c.name) p in
    let same : same_class (class e.name e.loader) c ≡ true = and_from (same_name e.name c.name) (e.loader == c.loader) both.1 both.0 in
    found_step (same_class (class e.name e.loader) c) (is_among path (class e.name e.loader)) (left (c ∷ path) es) (left path es) same (subst (λ (x : Class). is_among path x ≡ false) (sym (is_class (class e.name e.loader) c same)) k) (left_le path c es)

left_less : (path : List Class) (c : Class) (es : Content) (b : List ℕ) → content_at es c.loader c.name ≡ Some b → is_among path c ≡ false → left (c ∷ path) es < left path es
left_less path c [] b h k = absurd cc
left_less path c (e ∷ es) b h k = less_at path c e es b (λ q. left_less path c es b q k) k ((e.loader == c.loader) && pointwise nat_eq e.name c.name) refl h

-- ---- what ends

abbrev pub Done : {A : Type 0} → Work A → Type 0
Done {A} a = (m : Made A) × (a ≡ Some m)

pub now : {A : Type 0} (m : Made A) → Done (Some m)
now m = (m, refl)

go_done : {A B : Type 0} (ns : List Need) (asked : List Ask) (ends : Result A Error) (f : A → Work B) → ((x : A) → ends ≡ Ok x → Done (f x)) → Done (go_on ns asked ends f)
go_done ns asked (Err e) f h = now _
go_done {B = B} ns asked (Ok x) f h = let d = h x refl in (after_made ns asked d.0, ap (λ (z : Work B). option_map (after_made ns asked) z) d.1)

pub done_then : {A B : Type 0} (a : Work A) (f : A → Work B) → Done a → ((x : A) → Ends a (Ok x) → Done (f x)) → Done (a >>= f)
done_then {B = B} a f d h =
    subst (λ (z : Work _). Done {A = B} (z >>= f)) (sym d.1) (go_done d.0.needs d.0.asked d.0.ends f (λ x e. h x (record { made = d.0; is = d.1; ends = e })))

pub or_fail_done : {A : Type 0} (e : Error) (o : Option A) → Done (or_fail e o)
or_fail_done e None = now _
or_fail_done e (Some x) = now _

pub unless_done : (o : Option Error) → Done (unless_wrong o)
unless_done None = now _
unless_done (Some e) = now _

pub load_done : (w : World) (d : Class → Work Kin) → ((s : Class) → Done (d s)) → (absent : Class → Error) (loader : ℕ) (name : Name) → Done (load_by w d absent loader name)
load_done w d h absent loader name =
    done_then (ask loader name) (sought w d absent loader name) (now _) (λ a x.
    done_then (or_fail (absent (class name loader)) (home w loader name)) (found w d loader name) (or_fail_done (absent (class name loader)) (home w loader name)) (λ place y.
    done_then (d (class name place)) (loaded w loader name place) (h (class name place)) (λ k z. now _)))

above_done : (w : World) (d : Class → Work Kin) → ((s : Class) → Done (d s)) → (c : Class) (others : List Above) → Done (loads_above w d c others)
above_done w d h c [] = now _
above_done w d h c (a ∷ others) =
    done_then (load_by w d NoClassDef c.loader a.name) (checked w d c a others) (load_done w d h NoClassDef c.loader a.name) (λ k x.
    done_then (unless_wrong (misfit c a.role k.class k.file)) (others_after w d c others k) (unless_done (misfit c a.role k.class k.file)) (λ b y.
    done_then (loads_above w d c others) (grown k) (above_done w d h c others) (λ ks z. now _)))

new_done : (w : World) (d : Class → Work Kin) (c : Class) → ((f : File) → HasFile w c f → (s : Class) → Done (d s)) → Done (derive_new w d c)
new_done w d c h =
    done_then (of_result (read_class w c)) (superclass_next w d c) (now _) (λ f x.
    let below = h f (some_end (read_class w c) f x) in
    done_then (loads_above w d c (superclass_of f)) (interfaces_next w d c f) (above_done w d below c (superclass_of f)) (λ sup y.
    done_then (loads_above w d c (superinterfaces_of f)) (finished c f sup) (above_done w d below c (superinterfaces_of f)) (λ ints z. now _)))
  where
    some_end : (r : Result File Error) (f : File) → Ends (of_result r) (Ok f) → r ≡ Ok f
    some_end r f x = ap (λ (m : Made File). m.ends) (some_same _ _ x.is) ∙ x.ends

circle_done : (c : Class) (a : Work Kin) (t : Bool) → (t ≡ false → Done a) → Done (circle_or c a t)
circle_done c a true h = now _
circle_done c a false h = h refl

-- a height above what is left of the content ends every derivation
pub derive_done : (w : World) (n : ℕ) (path : List Class) → left path w.content < n → (c : Class) → Done (derive w n path c)
derive_done w zero path h c = absurd (omega arith)
derive_done w (suc n) path h c =
    done_then (ask c.loader c.name) (λ (a : Unit {0}). circle_or c (derive_new w (derive w n (c ∷ path)) c) (is_among path c)) (now _) (λ a x.
    circle_done c (derive_new w (derive w n (c ∷ path)) c) (is_among path c) (λ t.
    new_done w (derive w n (c ∷ path)) c (λ f hf.
    let bytes = (file_stored w c f hf).1 in
    let less : left (c ∷ path) w.content < left path w.content = left_less path c w.content bytes.0 bytes.1 t in
    derive_done w n (c ∷ path) (omega arith))))

-- enough for all
unfoldable pub enough : World → ℕ
enough w = suc (left [] w.content)

pub derive_enough : (w : World) (c : Class) → Done (derive w (enough w) [] c)
unfolding enough
derive_enough w c = derive_done w (suc (left [] w.content)) [] (omega arith) c

-- ---- each class is good, or fails, or its walk returns

abbrev pub ComesOut : World → Class → Type 0
ComesOut w c = IsGood w c ⊎ ((n : ℕ) × (e : Error) × Fails w n c e) ⊎ ((x : Class) × Returns w [] c x)

pub comes_out : (w : World) (c : Class) → ComesOut w c
comes_out w c =
    let d = derive_enough w c in
    at d.0 d.1 d.0.ends refl
  where
    at : (m : Made Kin) → derive w (enough w) [] c ≡ Some m → (r : Result Kin Error) → m.ends ≡ r → ComesOut w c
    at m h (Ok k) e = inl (enough w, (derive_yields w (enough w) [] c m k h e).0)
    at m h (Err x) e = elim (derive_err w (enough w) [] c m x h e) [
      | inl f ↦ inr (inl (enough w, x, f))
      | inr r ↦ inr (inr (r.0, r.2))
    ]

pub circular_returns : (w : World) (c : Class) → Circular w c → (x : Class) × Returns w [] c x
circular_returns w c h = elim (comes_out w c) [
  | inl g ↦ absurd (h.not_good g.0 g.1)
  | inr k ↦ elim k [
    | inl f ↦ absurd (h.not_failing f.0 f.1 f.2)
    | inr r ↦ r
  ]
]

pub circular_goes_on : (w : World) (c : Class) → Circular w c → (s : Class) × Next w c s × Circular w s
circular_goes_on w c h = let r = circular_returns w c h in return_next w c r.0 r.1
