-- Each request has one plan, and each reference of a good class one resolution.
use Rattle.std.proofs.Common.{◌≡◌, inl, inr, ℕ, zero, suc, Bool, true, false, if◌then◌else◌, [], Option, Some, None, Result, Ok, Err, refl, sym, ap, subst, ◌∙◌}
use Rattle.std.specs.Prelude.{option_map, option_and_then}
use Rattle.cl_classfile.specs.Files.{Name, Key, Member, Reference, ToClass, ToField, ToMethod, ToInterfaceMethod, reference, is_interface}
use Rattle.cl_model.specs.Homes.{World}
use Rattle.cl_model.specs.declared.class.Class.{Class}
use Rattle.cl_model.specs.Classes.{Error, ClassNotFound, NoClassDef, NoSuchField, NoSuchMethod, IncompatibleClassChange, IllegalAccess, Good}
use Rattle.cl_model.specs.Lineages.{Kin, field_of, method_of, lookup_field, lookup_method, lookup_interface_method, member_accessible}
use Rattle.cl_model.specs.Preparation.{equals_of}
use Rattle.cl_model.specs.States.{Verdict, BadEntry, Wrong, IsField, IsMethod}
use Rattle.cl_model.specs.Works.{Work, Made, end_with, need, or_fail, unless_wrong, ◌>>=◌}
use Rattle.cl_model.specs.Plans.{derive, flags_of, load, class_named, inaccessible, resolve_found, resolve_field, resolve_method, resolve_in, through, resolve_named, resolve_reference, resolve, Request, Load, Resolve, Link, loaded_by, go_on_with, Plan, plan_after, plan_from, plan}
use Rattle.cl_model.specs.Machine.{HasLineage, IsPlan, IsResolution}
use Rattle.cl_model.proofs.Bind.{some_same}
use Rattle.cl_model.proofs.Heights.{Reaches, first_reaches, load_reaches, derive_reaches}
use Rattle.cl_model.proofs.Complete.{Upto, good_is_derived}
use Rattle.cl_model.proofs.Circles.{upto_total, one_derivation}
use Rattle.cl_model.proofs.Ending.{Done, now, done_then, or_fail_done, unless_done, load_done, enough, derive_enough}

-- ---- what a height gives, a greater one gives, and two give the same

grows_upto : {A : Type 0} (f : ℕ → Option A) → ((n : ℕ) (x : A) → f n ≡ Some x → f (suc n) ≡ Some x) → (h n : ℕ) → Upto h n → (x : A) → f h ≡ Some x → f n ≡ Some x
grows_upto f g h zero u x e = subst (λ (z : ℕ). f z ≡ Some x) u e
grows_upto f g h (suc n) (inl u) x e = subst (λ (z : ℕ). f z ≡ Some x) u e
grows_upto f g h (suc n) (inr u) x e = g n x (grows_upto f g h n u x e)

pub one_value : {A : Type 0} (f : ℕ → Option A) → ((n : ℕ) (x : A) → f n ≡ Some x → f (suc n) ≡ Some x) → (n h : ℕ) (x y : A) → f n ≡ Some x → f h ≡ Some y → x ≡ y
one_value f g n h x y p q = elim (upto_total n h) [
  | inl u ↦ some_same x y (sym (grows_upto f g n h u x p) ∙ q)
  | inr u ↦ some_same x y (sym p ∙ grows_upto f g h n u y q)
]

-- ---- the pieces of a resolution

abbrev pub resolved : World → ℕ → Kin → Option Reference → Work Verdict
resolved w n d o = elim o [
  | None ↦ end_with BadEntry
  | Some r ↦ resolve_reference w n d r
]

load_grows : (w : World) (n : ℕ) (absent : Class → Error) (loader : ℕ) (name : Name) → Reaches (load w n absent loader name) (load w (suc n) absent loader name)
load_grows w n absent loader name = load_reaches w (derive w n []) (derive w (suc n) []) (derive_reaches w n []) absent loader name

named_grows : (w : World) (n : ℕ) (d : Kin) (r : Reference) (o : Option Name) → Reaches (resolve_named w n d r o) (resolve_named w (suc n) d r o)
named_grows w n d r None m h = h
named_grows w n d r (Some name) m h = first_reaches (load w n NoClassDef d.class.loader name) (load w (suc n) NoClassDef d.class.loader name) (through d r) (load_grows w n NoClassDef d.class.loader name) m h

resolved_grows : (w : World) (n : ℕ) (d : Kin) (o : Option Reference) → Reaches (resolved w n d o) (resolved w (suc n) d o)
resolved_grows w n d None m h = h
resolved_grows w n d (Some r) m h = named_grows w n d r (class_named r) m h

pub resolve_grows : (w : World) (n : ℕ) (d : Kin) (i : ℕ) → Reaches (resolve w n d i) (resolve w (suc n) d i)
resolve_grows w n d i = resolved_grows w n d (reference d.file i)

-- ---- plans

on_grows : (w : World) (n : ℕ) (q : Request) (k : Kin) → Reaches (go_on_with w n q k) (go_on_with w (suc n) q k)
on_grows w n (Load loader name) k m h = h
on_grows w n (Resolve loader name i) k m h = resolve_grows w n k i m h
on_grows w n (Link loader name) k m h = h

map_some : {A B : Type 0} (f : A → B) (a b : Option A) → ((x : A) → a ≡ Some x → b ≡ Some x) → (y : B) → option_map f a ≡ Some y → option_map f b ≡ Some y
map_some f None b r y h = absurd cc
map_some f (Some x) b r y h = subst (λ (z : Option _). option_map f z ≡ Some y) (sym (r x refl)) h

abbrev from_end : World → ℕ → Request → Made Kin → Result Kin Error → Option Plan
from_end w n q m e = elim e as (λ x. Option Plan) [
  | Err e ↦ Some (record { own = m.needs; more = []; asked = m.asked; reached = None; ends = Wrong e })
  | Ok k ↦ option_map (plan_after m k) (go_on_with w n q k)
]

from_grows : (w : World) (n : ℕ) (q : Request) (m : Made Kin) (e : Result Kin Error) (p : Plan) → from_end w n q m e ≡ Some p → from_end w (suc n) q m e ≡ Some p
from_grows w n q m (Err e) p h = h
from_grows w n q m (Ok k) p h = map_some (plan_after m k) (go_on_with w n q k) (go_on_with w (suc n) q k) (λ x r. on_grows w n q k x r) p h

then_grows : {A B : Type 0} (f g : A → Option B) (a b : Option A) → ((x : A) → a ≡ Some x → b ≡ Some x) → ((x : A) (y : B) → f x ≡ Some y → g x ≡ Some y) → (y : B) → option_and_then f a ≡ Some y → option_and_then g b ≡ Some y
then_grows f g None b r s y h = absurd cc
then_grows f g (Some x) b r s y h = subst (λ (z : Option _). option_and_then g z ≡ Some y) (sym (r x refl)) (s x y h)

pub plan_grows : (w : World) (q : Request) (n : ℕ) (p : Plan) → plan w n q ≡ Some p → plan w (suc n) q ≡ Some p
plan_grows w q n p h =
    then_grows (plan_from w n q) (plan_from w (suc n) q) (load w n ClassNotFound (loaded_by q).loader (loaded_by q).name) (load w (suc n) ClassNotFound (loaded_by q).loader (loaded_by q).name)
    (λ m e. load_grows w n ClassNotFound (loaded_by q).loader (loaded_by q).name m e) (λ m r e. from_grows w n q m m.ends r e) p h

pub one_plan : (w : World) (q : Request) (p r : Plan) → IsPlan w q p → IsPlan w q r → p ≡ r
one_plan w q p r a b = one_value (λ (n : ℕ). plan w n q) (plan_grows w q) a.height b.height p r a.planned b.planned

pub one_lineage : (w : World) (c : Class) (k l : Kin) → HasLineage w c k → HasLineage w c l → k ≡ l
one_lineage w c k l a b = kin_of k l a.made.ends a.ends (ap (λ (m : Made Kin). m.ends) (one_derivation w a.height b.height [] c a.made b.made a.derived b.derived) ∙ b.ends)
  where
    kin_of : (x y : Kin) (r : Result Kin Error) → r ≡ Ok x → r ≡ Ok y → x ≡ y
    kin_of x y r h k = cc

pub one_resolution : (w : World) (d : Class) (i : ℕ) (m k : Made Verdict) → IsResolution w d i m → IsResolution w d i k → m ≡ k
one_resolution w d i m k a b =
    let same : a.kin ≡ b.kin = one_lineage w d a.kin b.kin a.above b.above in
    one_value (λ (n : ℕ). resolve w n b.kin i) (λ n x e. resolve_grows w n b.kin i x e) a.height b.height m k (subst (λ (x : Kin). resolve w a.height x i ≡ Some m) same a.made) b.made

-- ---- that there are some

enough_done : (w : World) (absent : Class → Error) (loader : ℕ) (name : Name) → Done (load w (enough w) absent loader name)
enough_done w absent loader name = load_done w (derive w (enough w) []) (derive_enough w) absent loader name

-- what follows in the resolution of a member
abbrev pub imposed : Kin → Kin → Key → Verdict → Unit {0} → Work Verdict
imposed d owner key v a = need (equals_of key owner.class.loader d.class.loader) >>= λ b. end_with v

found_done : (d c owner : Kin) (found : Option Member) (key : Key) (v : Verdict) → Done (resolve_found d c owner found key v)
found_done d c owner found key v = done_then (unless_wrong (if member_accessible d owner (flags_of found) c then None else Some (IllegalAccess owner.class))) (imposed d owner key v) (unless_done _) (λ a x. now _)

abbrev pub field_found : Kin → Key → Kin → Kin → Work Verdict
field_found d key c owner = resolve_found d c owner (field_of owner key) key (IsField owner.class key)

pub field_done : (d : Kin) (key : Key) (c : Kin) → Done (resolve_field d key c)
field_done d key c = done_then (or_fail (NoSuchField c.class) (lookup_field c key)) (field_found d key c) (or_fail_done (NoSuchField c.class) (lookup_field c key)) (λ owner x. found_done d c owner (field_of owner key) key (IsField owner.class key))

abbrev pub method_found : Kin → Key → Kin → Kin → Work Verdict
method_found d key c owner = resolve_found d c owner (method_of owner key) key (IsMethod owner.class key)

abbrev pub looked_up : Bool → Kin → Key → Option Kin
looked_up b c key = if b then lookup_interface_method c key else lookup_method c key

abbrev pub method_sought : Bool → Kin → Key → Kin → Unit {0} → Work Verdict
method_sought b d key c a = or_fail (NoSuchMethod c.class) (looked_up b c key) >>= method_found d key c

abbrev pub wrong_kind : Bool → Kin → Option Error
wrong_kind b c =
    if b then (if is_interface c.file then None else Some (IncompatibleClassChange c.class))
    else (if is_interface c.file then Some (IncompatibleClassChange c.class) else None)

pub method_done : (b : Bool) (d : Kin) (key : Key) (c : Kin) → Done (resolve_method b d key c)
method_done b d key c = done_then (unless_wrong (wrong_kind b c)) (method_sought b d key c) (unless_done (wrong_kind b c)) (λ a x.
    done_then (or_fail (NoSuchMethod c.class) (looked_up b c key)) (method_found d key c) (or_fail_done (NoSuchMethod c.class) (looked_up b c key)) (λ owner y. found_done d c owner (method_of owner key) key (IsMethod owner.class key)))

pub in_done : (d c : Kin) (r : Reference) → Done (resolve_in d r c)
in_done d c (ToClass t) = now _
in_done d c (ToField t key) = field_done d key c
in_done d c (ToMethod t key) = method_done false d key c
in_done d c (ToInterfaceMethod t key) = method_done true d key c

pub through_done : (d c : Kin) (r : Reference) → Done (through d r c)
through_done d c r = done_then (unless_wrong (inaccessible d c)) (λ (a : Unit {0}). resolve_in d r c) (unless_done (inaccessible d c)) (λ a x. in_done d c r)

named_done : (w : World) (d : Kin) (r : Reference) (o : Option Name) → Done (resolve_named w (enough w) d r o)
named_done w d r None = now _
named_done w d r (Some name) = done_then (load w (enough w) NoClassDef d.class.loader name) (through d r) (enough_done w NoClassDef d.class.loader name) (λ c x. through_done d c r)

resolved_done : (w : World) (d : Kin) (o : Option Reference) → Done (resolved w (enough w) d o)
resolved_done w d None = now _
resolved_done w d (Some r) = named_done w d r (class_named r)

pub resolve_done : (w : World) (d : Kin) (i : ℕ) → Done (resolve w (enough w) d i)
resolve_done w d i = resolved_done w d (reference d.file i)

on_done : (w : World) (q : Request) (k : Kin) → Done (go_on_with w (enough w) q k)
on_done w (Load loader name) k = now _
on_done w (Resolve loader name i) k = resolve_done w k i
on_done w (Link loader name) k = now _

from_done : (w : World) (q : Request) (m : Made Kin) (e : Result Kin Error) → (p : Plan) × (from_end w (enough w) q m e ≡ Some p)
from_done w q m (Err e) = (_, refl)
from_done w q m (Ok k) = let d = on_done w q k in (plan_after m k d.0, ap (λ (z : Work Verdict). option_map (plan_after m k) z) d.1)

pub plan_exists : (w : World) (q : Request) → (p : Plan) × IsPlan w q p
plan_exists w q =
    let d = enough_done w ClassNotFound (loaded_by q).loader (loaded_by q).name in
    let p = from_done w q d.0 d.0.ends in
    (p.0, record { height = enough w; planned = ap (λ (z : Work Kin). option_and_then (plan_from w (enough w) q) z) d.1 ∙ p.1 })

pub lineage_exists : (w : World) (n : ℕ) (c : Class) → Good w n c → (k : Kin) × HasLineage w c k
lineage_exists w n c g = let d = good_is_derived w n c g in (d.1, record { height = n; made = d.0; derived = d.2; ends = d.3 })

pub resolution_exists : (w : World) (d : Class) (i n : ℕ) → Good w n d → (m : Made Verdict) × IsResolution w d i m
resolution_exists w d i n g =
    let k = lineage_exists w n d g in
    let r = resolve_done w k.0 i in
    (r.0, record { kin = k.0; above = k.1; height = enough w; made = r.1 })
