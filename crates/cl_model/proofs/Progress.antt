-- The first need of a plan that does not stand may be made, unless it is refused.
use Rattle.std.proofs.Common.{◌≡◌, ◌≢◌, ◌⊎◌, inl, inr, ℕ, zero, suc, Bool, true, false, ◌==◌, ◌&&◌, not, if◌then◌else◌, List, [], ◌∷◌, ◌++◌, Option, Some, None, Result, Ok, Err, refl, sym, ap, subst, ◌∙◌}
use Rattle.std.specs.Prelude.{option_map, flat_map, map, filter, nat_le, is_some}
use Rattle.std.specs.List.{AllByRecursion}
use Rattle.std.proofs.lemmas.Bool.{eqb-true}
use Rattle.std.proofs.lemmas.Cmp.{nat_eq_equiv}
use Rattle.cl_descriptors.proofs.Codec.{map_some, then_some}
use Rattle.cl_classfile.specs.Files.{Name, File, Key, Member, Reference, ToClass, ToField, ToMethod, ToInterfaceMethod, reference, is_interface}
use Rattle.cl_model.specs.Homes.{World, home}
use Rattle.cl_model.specs.declared.class.Class.{Class}
use Rattle.cl_model.specs.Classes.{class, Error, Above, is_among, ClassNotFound, NoClassDef, NoSuchField, NoSuchMethod, IllegalAccess, read_class, misfit, superclass_of, superinterfaces_of, FitsAt, Good}
use Rattle.cl_model.specs.Lineages.{Forest, Bare, Tree, Kin, StandsFor, IsLineage, alone, postorder, once_after, lineage, field_of, method_of, lookup_field, member_accessible, superinterfaces}
use Rattle.cl_model.specs.Preparation.{equal_between, equals_of, equals_with, class_names, takes_part, overridden_superclasses, for_declared, for_inherited, inherited_from, with_inherited, constraints_of}
use Rattle.cl_model.specs.States.{State, Need, Entry, Equal, Verdict, IsField, IsMethod, Met, AllMet, Wrong, IsNext, MayAdd, recorded_definer, IsRecorded, with_need}
use Rattle.cl_model.specs.Works.{Work, Made, end_with, need, ask, or_fail, unless_wrong, of_result, ◌>>=◌}
use Rattle.cl_model.specs.Plans.{initiating_needs, load_by, loads_above, derive_new, derive, load, class_named, inaccessible, resolve_found, resolve_field, resolve_method, resolve_in, through, resolve_named, resolve, flags_of, Request, Load, Resolve, Link, loaded_by, go_on_with, Plan, plan_after, plan_from, plan_needs}
use Rattle.cl_model.specs.Machine.{Setting, Define, Initiate, May, IsClosed, HasLineage, IsPlan, step_for, after}
use Rattle.cl_model.proofs.Bind.{pieces, some_same, or_fail_ok, result_ok, value_same}
use Rattle.cl_model.proofs.Heights.{loaded, found, sought, grown, others_after, checked, finished, interfaces_next, superclass_next, circle_or}
use Rattle.cl_model.proofs.Derived.{above_ok, above_good, derive_ok, derive_yields, load_ok, Yields, IsLoad, all_both}
use Rattle.cl_model.proofs.Closed.{all_left, all_right, Stands}
use Rattle.cl_model.proofs.Ending.{good_at_home}
use Rattle.cl_model.proofs.Planned.{resolved, imposed, field_found, looked_up, method_found, method_sought, wrong_kind}
use Rattle.cl_model.proofs.Trees.{derive_gives, lineage_of, lineage_is_derived}

-- ---- lists of needs

pub next_split : (s : State) (xs ys : List Need) (n : Need) → IsNext s (xs ++ ys) n → IsNext s xs n ⊎ (AllMet s xs × IsNext s ys n)
next_split s [] ys n h = inr (tt, h)
next_split s (x ∷ xs) ys n (inl e) = inl (inl e)
next_split s (x ∷ xs) ys n (inr h) = elim (next_split s xs ys n h.1) [
  | inl k ↦ inl (inr (h.0, k))
  | inr k ↦ inr ((h.0, k.0), k.1)
]

pub met_split : (s : State) (xs ys : List Need) → AllMet s (xs ++ ys) → AllMet s xs × AllMet s ys
met_split s [] ys h = (tt, h)
met_split s (x ∷ xs) ys h = let k = met_split s xs ys h.1 in ((h.0, k.0), k.1)

-- ---- what work makes, where all before is met

-- each need of the work that is next and of this kind may be made
abbrev pub Makes : {A : Type 0} → Setting → State → (Need → Type 0) → Work A → Type 0
Makes {A} g s P a = (m : Made A) → a ≡ Some m → (n : Need) → P n → IsNext s m.needs n → MayAdd s n → May g s (step_for n)

makes_then : {A B : Type 0} (g : Setting) (s : State) (P : Need → Type 0) (a : Work A) (f : A → Work B) → Makes g s P a → ((x : A) (m : Made A) → a ≡ Some m → m.ends ≡ Ok x → AllMet s m.needs → Makes g s P (f x)) → Makes g s P (a >>= f)
makes_then {A = A} {B = B} g s P a f one two m h n p next may = elim (pieces a f m m.ends h refl) [
  | inl b ↦ elim (next_split s b.first.needs b.second.needs n (subst (λ (x : List Need). IsNext s x n) b.needs next)) [
    | inl k ↦ one b.first b.made n p k may
    | inr k ↦ two b.value b.first b.made b.ended k.0 b.second b.next n p k.1 may
  ]
  | inr e ↦ one e.2.first e.2.made n p (subst (λ (x : List Need). IsNext s x n) e.2.needs next) may
]

-- work without needs
none_next : {A : Type 0} (g : Setting) (s : State) (P : Need → Type 0) (m : Made A) → m.needs ≡ [] → Makes g s P (Some m)
none_next g s P m e x h n p next may = absurd (subst (λ (y : List Need). IsNext s y n) (ap (λ (z : Made _). z.needs) (sym (some_same m x h)) ∙ e) next)

or_fail_makes : {A : Type 0} (g : Setting) (s : State) (P : Need → Type 0) (e : Error) (o : Option A) → Makes g s P (or_fail e o)
or_fail_makes g s P e None = none_next g s P _ refl
or_fail_makes g s P e (Some x) = none_next g s P _ refl

unless_makes : (g : Setting) (s : State) (P : Need → Type 0) (o : Option Error) → Makes g s P (unless_wrong o)
unless_makes g s P None = none_next g s P _ refl
unless_makes g s P (Some e) = none_next g s P _ refl

-- ---- a record that is wanted

own_equal : (n : ℕ) → (n == n) ≡ true
own_equal n = nat_eq_equiv.refl n

false_differs : (a b : ℕ) → (a == b) ≡ false → a ≢ b
false_differs a b h e = let t : (a == b) ≡ true = subst (λ (x : ℕ). (a == x) ≡ true) e (own_equal a) in absurd cc

initiate_may : (g : Setting) (s : State) (loader place : ℕ) (name : Name) (b : Bool) → (loader == place) ≡ b → home g.world loader name ≡ Some place → Met s (Entry place name place) → (n : Need) → IsNext s (if b then [] else Entry loader name place ∷ []) n → MayAdd s n → May g s (step_for n)
initiate_may g s loader place name true e f d n h may = absurd h
initiate_may g s loader place name false e f d n (inr h) may = absurd (h.1)
initiate_may g s loader place name false e f d n (inl h) may =
    subst (λ (x : Need). May g s (step_for x)) h
    (subst (λ (b : Bool). May g s (if b then Define (class name place) else Initiate name place loader)) (sym e)
    (record { found = f; not_own = false_differs loader place e; defined = d; may_add = subst (λ (x : Need). MayAdd s x) (sym h) may }))

-- a derivation whose needs are met has its class recorded
abbrev Records : State → (Class → Work Kin) → Type 0
Records s d = (c : Class) (m : Made Kin) (k : Kin) → d c ≡ Some m → m.ends ≡ Ok k → AllMet s m.needs → Met s (Entry c.loader c.name c.loader)

pub derive_records : (w : World) (s : State) (n : ℕ) (path : List Class) → Records s (derive w n path)
derive_records w s zero path c m k h e met = absurd cc
derive_records w s (suc n) path c m k h e met =
    let at = derive_ok w n path c m k h e in
    let all = subst (λ (x : List Need). AllMet s x) (at.needs ∙ at.new.needs) met in
    (met_split s at.new.over.needs (Entry c.loader c.name c.loader ∷ []) (met_split s at.new.up.needs (at.new.over.needs ++ (Entry c.loader c.name c.loader ∷ [])) all).1).1.0

-- a load whose needs are met has its record
asked_met : (s : State) (loader place : ℕ) (name : Name) (b : Bool) → (loader == place) ≡ b → Met s (Entry place name place) → AllMet s ((if b then [] else Entry loader name place ∷ []) ++ []) → Met s (Entry loader name place)
asked_met s loader place name true e d h = subst (λ (x : ℕ). recorded_definer s.records x name ≡ Some place) (sym (eqb-true loader place e)) d
asked_met s loader place name false e d h = h.0

pub load_records : (w : World) (s : State) (d : Class → Work Kin) → Records s d → (loader : ℕ) (name : Name) (m : Made Kin) (k : Kin) → (l : IsLoad w d loader name m k) → AllMet s m.needs → Met s (Entry loader name l.place) × Met s (Entry l.place name l.place)
load_records w s d r loader name m k l met =
    let both = met_split s l.below.needs (initiating_needs loader name l.place ++ []) (subst (λ (x : List Need). AllMet s x) l.needs met) in
    let own = r (class name l.place) l.below k l.made l.ends both.0 in
    (asked_met s loader l.place name (loader == l.place) refl own both.1, own)

-- ---- loads and derivations

load_makes : (g : Setting) (s : State) (P : Need → Type 0) (d : Class → Work Kin) → Records s d → ((c : Class) → Makes g s P (d c)) → (absent : Class → Error) (loader : ℕ) (name : Name) → Makes g s P (load_by g.world d absent loader name)
load_makes g s P d r ih absent loader name =
    makes_then g s P (ask loader name) (sought g.world d absent loader name) (none_next g s P _ refl) (λ a x hx ex mx.
    makes_then g s P (or_fail (absent (class name loader)) (home g.world loader name)) (found g.world d loader name) (or_fail_makes g s P (absent (class name loader)) (home g.world loader name)) (λ place y hy ey my.
    makes_then g s P (d (class name place)) (loaded g.world loader name place) (ih (class name place)) (λ k z hz ez mz.
    makes_then g s P (need (initiating_needs loader name place)) (λ (b : Unit {0}). end_with k)
    (λ m h n p next may. initiate_may g s loader place name (loader == place) refl (or_fail_ok (absent (class name loader)) (home g.world loader name) y place hy ey).0 (r (class name place) z k hz ez mz) n (subst (λ (q : List Need). IsNext s q n) (ap (λ (q : Made (Unit {0})). q.needs) (sym (some_same _ m h))) next) may)
    (λ b u hu eu mu. none_next g s P _ refl))))

above_makes : (g : Setting) (s : State) (P : Need → Type 0) (d : Class → Work Kin) → Records s d → ((c : Class) → Makes g s P (d c)) → (c : Class) (others : List Above) → Makes g s P (loads_above g.world d c others)
above_makes g s P d r ih c [] = none_next g s P _ refl
above_makes g s P d r ih c (a ∷ others) =
    makes_then g s P (load_by g.world d NoClassDef c.loader a.name) (checked g.world d c a others) (load_makes g s P d r ih NoClassDef c.loader a.name) (λ k x hx ex mx.
    makes_then g s P (unless_wrong (misfit c a.role k.class k.file)) (others_after g.world d c others k) (unless_makes g s P (misfit c a.role k.class k.file)) (λ b y hy ey my.
    makes_then g s P (loads_above g.world d c others) (grown k) (above_makes g s P d r ih c others) (λ ks z hz ez mz. none_next g s P _ refl)))

-- supertypes that are loaded have their records
above_met : (w : World) (s : State) (d : Class → Work Kin) → Records s d → (c : Class) (others : List Above) (m : Made Forest) (fs : Forest) → loads_above w d c others ≡ Some m → m.ends ≡ Ok fs → AllMet s m.needs → AllByRecursion (Stands w s c) others
above_met w s d r c [] m fs h e met = tt
above_met w s d r c (a ∷ others) m fs h e met =
    let one = above_ok w d c a others m fs h e in
    let both = met_split s one.one.needs (one.rest.needs ++ []) (subst (λ (x : List Need). AllMet s x) one.needs met) in
    let l = load_records w s d r c.loader a.name one.one one.kin one.load both.0 in (
      record { place = one.load.place; found = one.load.found; holds = l.0 },
      above_met w s d r c others one.rest one.forest one.made one.ends (met_split s one.rest.needs [] both.1).0,
    )

define_may : (g : Setting) (s : State) (c : Class) (b : Bool) → (c.loader == c.loader) ≡ b → MayAdd s (Entry c.loader c.name c.loader) → May g s (Define c) → May g s (if b then Define (class c.name c.loader) else Initiate c.name c.loader c.loader)
define_may g s c true e may h = h
define_may g s c false e may h = absurd (false_differs c.loader c.loader e refl)

new_makes : (g : Setting) (s : State) (P : Need → Type 0) (n : ℕ) (d : Class → Work Kin) → Records s d → ((c : Class) → Makes g s P (d c)) → Yields g.world d (Good g.world n) → (c : Class) → Makes g s P (derive_new g.world d c)
new_makes g s P n d r ih y c =
    let w = g.world in
    makes_then g s P (of_result (read_class w c)) (superclass_next w d c) (none_next g s P _ refl) (λ f x hx ex mx.
    makes_then g s P (loads_above w d c (superclass_of f)) (interfaces_next w d c f) (above_makes g s P d r ih c (superclass_of f)) (λ sup u hu eu mu.
    makes_then g s P (loads_above w d c (superinterfaces_of f)) (finished c f sup) (above_makes g s P d r ih c (superinterfaces_of f)) (λ ints v hv ev mv.
    makes_then g s P (need (Entry c.loader c.name c.loader ∷ [])) (λ (b : Unit {0}). end_with (record { class = c; file = f; superclass = sup; interfaces = ints }))
    (λ m h t p next may. last f x hx ex sup u hu eu mu ints v hv ev mv m h t next may)
    (λ b z hz ez mz. none_next g s P _ refl))))
  where
    last : (f : File) (x : Made File) → of_result (read_class g.world c) ≡ Some x → x.ends ≡ Ok f → (sup : Forest) (u : Made Forest) → loads_above g.world d c (superclass_of f) ≡ Some u → u.ends ≡ Ok sup → AllMet s u.needs → (ints : Forest) (v : Made Forest) → loads_above g.world d c (superinterfaces_of f) ≡ Some v → v.ends ≡ Ok ints → AllMet s v.needs → (m : Made (Unit {0})) → need (Entry c.loader c.name c.loader ∷ []) ≡ Some m → (t : Need) → IsNext s m.needs t → MayAdd s t → May g s (step_for t)
    last f x hx ex sup u hu eu mu ints v hv ev mv m h t next may =
        let w = g.world in
        let hf = (result_ok (read_class w c) x f hx ex).0 in
        let good : Good w (suc n) c = (f, hf, all_both (FitsAt w c (Good w n)) (superclass_of f) (superinterfaces_of f) (above_good w d (Good w n) y c (superclass_of f) u sup hu eu) (above_good w d (Good w n) y c (superinterfaces_of f) v ints hv ev)) in
        let stand = all_both (Stands w s c) (superclass_of f) (superinterfaces_of f) (above_met w s d r c (superclass_of f) u sup hu eu mu) (above_met w s d r c (superinterfaces_of f) v ints hv ev mv) in
        elim (subst (λ (q : List Need). IsNext s q t) (ap (λ (q : Made (Unit {0})). q.needs) (sym (some_same _ m h))) next) [
          | inr k ↦ absurd (k.1)
          | inl k ↦
              let add : MayAdd s (Entry c.loader c.name c.loader) = subst (λ (q : Need). MayAdd s q) (sym k) may in
              subst (λ (q : Need). May g s (step_for q)) k (define_may g s c (c.loader == c.loader) refl add (record {
                at_home = good_at_home w (suc n) c good;
                good = (suc n, good);
                file = f;
                has_file = hf;
                above = stand;
                may_add = add;
              }))
        ]

circle_makes : (g : Setting) (s : State) (P : Need → Type 0) (c : Class) (a : Work Kin) (t : Bool) → Makes g s P a → Makes g s P (circle_or c a t)
circle_makes g s P c a true h = none_next g s P _ refl
circle_makes g s P c a false h = h

derive_makes : (g : Setting) (s : State) (P : Need → Type 0) (n : ℕ) (path : List Class) (c : Class) → Makes g s P (derive g.world n path c)
derive_makes g s P zero path c = λ m h. absurd cc
derive_makes g s P (suc n) path c =
    let w = g.world in
    makes_then g s P (ask c.loader c.name) (λ (a : Unit {0}). circle_or c (derive_new w (derive w n (c ∷ path)) c) (is_among path c)) (none_next g s P _ refl) (λ a x hx ex mx.
    circle_makes g s P c (derive_new w (derive w n (c ∷ path)) c) (is_among path c)
    (new_makes g s P n (derive w n (c ∷ path)) (derive_records w s n (c ∷ path)) (λ t. derive_makes g s P n (c ∷ path) t) (derive_yields w n (c ∷ path)) c))

pub whole_load_makes : (g : Setting) (s : State) (P : Need → Type 0) (n : ℕ) (absent : Class → Error) (loader : ℕ) (name : Name) → Makes g s P (load g.world n absent loader name)
whole_load_makes g s P n absent loader name = load_makes g s P (derive g.world n []) (derive_records g.world s n []) (derive_makes g s P n []) absent loader name

-- ---- resolutions: their records, since their equalities are next in the whole list

abbrev pub IsEntry : Need → Type 0
IsEntry (Entry loader name place) = Unit {0}
IsEntry (Equal name a b) = ⊥

abbrev pub IsEquality : Need → Type 0
IsEquality (Entry loader name place) = ⊥
IsEquality (Equal name a b) = Unit {0}

pub next_is : (s : State) (Q : Need → Type 0) (ns : List Need) (n : Need) → AllByRecursion Q ns → IsNext s ns n → Q n
next_is s Q [] n all h = absurd h
next_is s Q (x ∷ ns) n all (inl e) = subst (λ (y : Need). Q y) e all.0
next_is s Q (x ∷ ns) n all (inr h) = next_is s Q ns n all.1 h.1

pub never_both : (n : Need) → IsEntry n → IsEquality n → ⊥
never_both (Entry loader name place) e q = q
never_both (Equal name a b) e q = e

equal_is : (name : Name) (a b : ℕ) (t : Bool) → IsEquality (if t then Equal name a b else Equal name b a)
equal_is name a b true = tt
equal_is name a b false = tt

pub equals_are : (names : List Name) (a b : ℕ) → AllByRecursion IsEquality (map (λ (n : Name). equal_between n a b) names)
equals_are [] a b = tt
equals_are (n ∷ names) a b = (equal_is n a b (nat_le a b), equals_are names a b)

found_makes : (g : Setting) (s : State) (d c owner : Kin) (member : Option Member) (key : Key) (v : Verdict) → Makes g s IsEntry (resolve_found d c owner member key v)
found_makes g s d c owner member key v =
    makes_then g s IsEntry (unless_wrong (if member_accessible d owner (flags_of member) c then None else Some (IllegalAccess owner.class))) (imposed d owner key v) (unless_makes g s IsEntry _) (λ a x hx ex mx.
    makes_then g s IsEntry (need (equals_of key owner.class.loader d.class.loader)) (λ (b : Unit {0}). end_with v)
    (λ m h n p next may. absurd (never_both n p (next_is s IsEquality (equals_of key owner.class.loader d.class.loader) n (equals_are (class_names key.descriptor) owner.class.loader d.class.loader) (subst (λ (q : List Need). IsNext s q n) (ap (λ (q : Made (Unit {0})). q.needs) (sym (some_same _ m h))) next))))
    (λ b y hy ey my. none_next g s IsEntry _ refl))

field_makes : (g : Setting) (s : State) (d : Kin) (key : Key) (c : Kin) → Makes g s IsEntry (resolve_field d key c)
field_makes g s d key c = makes_then g s IsEntry (or_fail (NoSuchField c.class) (lookup_field c key)) (field_found d key c) (or_fail_makes g s IsEntry (NoSuchField c.class) (lookup_field c key)) (λ owner x hx ex mx. found_makes g s d c owner (field_of owner key) key (IsField owner.class key))

method_makes : (g : Setting) (s : State) (b : Bool) (d : Kin) (key : Key) (c : Kin) → Makes g s IsEntry (resolve_method b d key c)
method_makes g s b d key c =
    makes_then g s IsEntry (unless_wrong (wrong_kind b c)) (method_sought b d key c) (unless_makes g s IsEntry (wrong_kind b c)) (λ a x hx ex mx.
    makes_then g s IsEntry (or_fail (NoSuchMethod c.class) (looked_up b c key)) (method_found d key c) (or_fail_makes g s IsEntry (NoSuchMethod c.class) (looked_up b c key)) (λ owner y hy ey my. found_makes g s d c owner (method_of owner key) key (IsMethod owner.class key)))

in_makes : (g : Setting) (s : State) (d c : Kin) (r : Reference) → Makes g s IsEntry (resolve_in d r c)
in_makes g s d c (ToClass t) = none_next g s IsEntry _ refl
in_makes g s d c (ToField t key) = field_makes g s d key c
in_makes g s d c (ToMethod t key) = method_makes g s false d key c
in_makes g s d c (ToInterfaceMethod t key) = method_makes g s true d key c

named_makes : (g : Setting) (s : State) (n : ℕ) (d : Kin) (r : Reference) (o : Option Name) → Makes g s IsEntry (resolve_named g.world n d r o)
named_makes g s n d r None = none_next g s IsEntry _ refl
named_makes g s n d r (Some name) =
    makes_then g s IsEntry (load g.world n NoClassDef d.class.loader name) (through d r) (whole_load_makes g s IsEntry n NoClassDef d.class.loader name) (λ c x hx ex mx.
    makes_then g s IsEntry (unless_wrong (inaccessible d c)) (λ (a : Unit {0}). resolve_in d r c) (unless_makes g s IsEntry _) (λ a y hy ey my. in_makes g s d c r))

resolved_makes : (g : Setting) (s : State) (n : ℕ) (d : Kin) (o : Option Reference) → Makes g s IsEntry (resolved g.world n d o)
resolved_makes g s n d None = none_next g s IsEntry _ refl
resolved_makes g s n d (Some r) = named_makes g s n d r (class_named r)

-- a need of a resolution of a recorded class
resolution_next : (g : Setting) (s : State) (h i : ℕ) (d : Class) (k : Kin) (m : Made Verdict) (n : Need) → IsRecorded s d → HasLineage g.world d k → resolve g.world h k i ≡ Some m → IsNext s m.needs n → MayAdd s n → May g s (step_for n)
resolution_next g s h i d k m (Entry loader name place) rec lin e next may = resolved_makes g s h k (reference k.file i) m e (Entry loader name place) tt next may
resolution_next g s h i d k m (Equal name a b) rec lin e next may = record {
  needs = m.needs;
  imposes = inr (d, rec, (i, m, record { kin = k; above = lin; height = h; made = e }, refl));
  next = next;
  may_add = may;
}

-- ---- links

equals_with_are : (key : Key) (loader : ℕ) (ks : List Kin) → AllByRecursion IsEquality (equals_with key loader ks)
equals_with_are key loader [] = tt
equals_with_are key loader (k ∷ ks) = all_both IsEquality (equals_of key loader k.class.loader) (equals_with key loader ks) (equals_are (class_names key.descriptor) loader k.class.loader) (equals_with_are key loader ks)

if_are : (b : Bool) (xs ys : List Need) → AllByRecursion IsEquality xs → AllByRecursion IsEquality ys → AllByRecursion IsEquality (if b then xs else ys)
if_are true xs ys p q = p
if_are false xs ys p q = q

pub flat_are : {A : Type 0} (f : A → List Need) → ((x : A) → AllByRecursion IsEquality (f x)) → (xs : List A) → AllByRecursion IsEquality (flat_map f xs)
flat_are f h [] = tt
flat_are f h (x ∷ xs) = all_both IsEquality (f x) (flat_map f xs) (h x) (flat_are f h xs)

inherited_are : (key : Key) (j : Kin) (o : Option Kin) → AllByRecursion IsEquality (with_inherited key j o)
inherited_are key j None = tt
inherited_are key j (Some a) = equals_are (class_names key.descriptor) a.class.loader j.class.loader

pub constraints_are : (c : Kin) → AllByRecursion IsEquality (constraints_of c)
constraints_are c =
    all_both IsEquality (flat_map (for_declared c) c.file.methods) (if is_interface c.file then [] else flat_map (λ j. flat_map (for_inherited c j) j.file.methods) (superinterfaces c))
    (flat_are (for_declared c) (λ m. if_are (takes_part m.key c) _ [] (all_both IsEquality (if is_interface c.file then [] else equals_with m.key c.class.loader (overridden_superclasses m.key c)) (equals_with m.key c.class.loader (filter (takes_part m.key) (superinterfaces c)))
    (if_are (is_interface c.file) [] _ tt (equals_with_are m.key c.class.loader (overridden_superclasses m.key c)))
    (equals_with_are m.key c.class.loader (filter (takes_part m.key) (superinterfaces c)))) tt) c.file.methods)
    (if_are (is_interface c.file) [] _ tt (flat_are (λ j. flat_map (for_inherited c j) j.file.methods) (λ j. flat_are (for_inherited c j) (λ m. if_are (takes_part m.key j && not (is_some (method_of c m.key))) _ [] (inherited_are m.key j (inherited_from c m.key)) tt) j.file.methods) (superinterfaces c)))

-- a class of a recorded lineage is recorded, with its own lineage
abbrev pub IsKept : World → State → Kin → Type 0
IsKept w s k = IsRecorded s k.class × IsLineage w k

pub class_is : (x : Class) (name : Name) (place : ℕ) → x.name ≡ name → x.loader ≡ place → x ≡ class name place
class_is x name place p q = ap (λ (n : Name). class n x.loader) p ∙ ap (λ (l : ℕ). class name l) q

forest_kept : (w : World) (s : State) (c : Class) (fs : Forest) (others : List Above) → IsClosed w s → AllByRecursion (Stands w s c) others → StandsFor w c fs others → AllByRecursion (IsKept w s) (postorder fs)
forest_kept w s c Bare others closed all h = tt
forest_kept w s c (Tree t f sup ints rest) [] closed all h = absurd h
forest_kept w s c (Tree t f sup ints rest) (a ∷ more) closed all h =
    let same : t ≡ class a.name all.0.place = class_is t a.name all.0.place h.0.named (value_same t.loader all.0.place (home w c.loader a.name) h.0.found all.0.found) in
    let rec : IsRecorded s t = subst (λ (x : Class). IsRecorded s x) (sym same) (closed.own c.loader all.0.place a.name all.0.holds) in
    let above = closed.above t f rec h.0.has_file in
    let k : Kin = record { class = t; file = f; superclass = sup; interfaces = ints } in
    all_both (IsKept w s) (postorder sup ++ postorder ints) (k ∷ postorder rest)
    (all_both (IsKept w s) (postorder sup) (postorder ints)
    (forest_kept w s t sup (superclass_of f) closed (all_left (Stands w s t) (superclass_of f) (superinterfaces_of f) above) h.1)
    (forest_kept w s t ints (superinterfaces_of f) closed (all_right (Stands w s t) (superclass_of f) (superinterfaces_of f) above) h.2))
    ((rec, record { has_file = h.0.has_file; above = h.1; over = h.2 }), forest_kept w s c rest more closed all.1 h.3)

pub once_kept : (P : Kin → Type 0) (seen : List Class) (ks : List Kin) → AllByRecursion P ks → AllByRecursion P (once_after seen ks)
once_kept P seen [] h = tt
once_kept P seen (k ∷ ks) h = at (is_among seen k.class) (once_kept P seen ks h.1) (once_kept P (k.class ∷ seen) ks h.1)
  where
    at : (b : Bool) → AllByRecursion P (once_after seen ks) → AllByRecursion P (once_after (k.class ∷ seen) ks) → AllByRecursion P (if b then once_after seen ks else k ∷ once_after (k.class ∷ seen) ks)
    at true x y = x
    at false x y = (h.0, y)

pub lineage_kept : (w : World) (s : State) (k : Kin) → IsClosed w s → IsRecorded s k.class → IsLineage w k → AllByRecursion (IsKept w s) (lineage k)
lineage_kept w s k closed rec h =
    let above = closed.above k.class k.file rec h.has_file in
    once_kept (IsKept w s) [] (postorder (alone k))
    (all_both (IsKept w s) (postorder k.superclass ++ postorder k.interfaces) (k ∷ [])
    (all_both (IsKept w s) (postorder k.superclass) (postorder k.interfaces)
    (forest_kept w s k.class k.superclass (superclass_of k.file) closed (all_left (Stands w s k.class) (superclass_of k.file) (superinterfaces_of k.file) above) h.above)
    (forest_kept w s k.class k.interfaces (superinterfaces_of k.file) closed (all_right (Stands w s k.class) (superclass_of k.file) (superinterfaces_of k.file) above) h.over))
    ((rec, h), tt))

kept_recorded : (w : World) (s : State) (ks : List Kin) → AllByRecursion (IsKept w s) ks → AllByRecursion (λ (k : Kin). IsRecorded s k.class) ks
kept_recorded w s [] h = tt
kept_recorded w s (k ∷ ks) h = (h.0.0, kept_recorded w s ks h.1)

pub lineage_recorded : (w : World) (s : State) (k : Kin) → IsClosed w s → IsLineage w k → IsRecorded s k.class → AllByRecursion (λ (a : Kin). IsRecorded s a.class) (lineage k)
lineage_recorded w s k closed h rec = kept_recorded w s (lineage k) (lineage_kept w s k closed rec h)

pub link_next : (g : Setting) (s : State) (ks : List Kin) (n : Need) → AllByRecursion (IsKept g.world s) ks → IsNext s (flat_map constraints_of ks) n → MayAdd s n → May g s (step_for n)
link_next g s [] n all h may = absurd h
link_next g s (k ∷ ks) n all h may = elim (next_split s (constraints_of k) (flat_map constraints_of ks) n h) [
  | inr x ↦ link_next g s ks n all.1 x.1 may
  | inl x ↦ at n x (next_is s IsEquality (constraints_of k) n (constraints_are k) x) may
]
  where
    at : (x : Need) → IsNext s (constraints_of k) x → IsEquality x → MayAdd s x → May g s (step_for x)
    at (Entry loader name place) x q m = absurd q
    at (Equal name a b) x q m = record {
      needs = constraints_of k;
      imposes = inl (k.class, all.0.0, (k, lineage_is_derived g.world k all.0.1, refl));
      next = x;
      may_add = m;
    }

-- ---- plans

on_next : (g : Setting) (s : State) (h : ℕ) (q : Request) (k : Kin) (m : Made Verdict) (n : Need) → IsClosed g.world s → IsRecorded s k.class → HasLineage g.world k.class k → go_on_with g.world h q k ≡ Some m → IsNext s m.needs n → MayAdd s n → May g s (step_for n)
on_next g s h (Load loader name) k m n closed rec lin e next may = absurd (subst (λ (x : List Need). IsNext s x n) (sym (ap (λ (x : Made Verdict). x.needs) (some_same _ m e))) next)
on_next g s h (Resolve loader name i) k m n closed rec lin e next may = resolution_next g s h i k.class k m n rec lin e next may
on_next g s h (Link loader name) k m n closed rec lin e next may =
    elim (next_split s (flat_map constraints_of (lineage k)) [] n (subst (λ (x : List Need). IsNext s x n) (sym (ap (λ (x : Made Verdict). x.needs) (some_same _ m e))) next)) [
      | inl x ↦ link_next g s (lineage k) n (lineage_kept g.world s k closed rec (lineage_of g.world k.class k lin).1) x may
      | inr x ↦ absurd (x.1)
    ]

pub next_may : (g : Setting) (s : State) (q : Request) (p : Plan) (n : Need) → IsClosed g.world s → IsPlan g.world q p → IsNext s (plan_needs p) n → MayAdd s n → May g s (step_for n)
next_may g s q p n closed is next may =
    let w = g.world in
    let h = is.height in
    let l = then_some (plan_from w h q) (load w h ClassNotFound (loaded_by q).loader (loaded_by q).name) p is.planned in
    at l.0 l.1 l.0.ends refl l.2
  where
    at : (m : Made Kin) → load g.world is.height ClassNotFound (loaded_by q).loader (loaded_by q).name ≡ Some m → (e : Result Kin Error) → m.ends ≡ e → (elim e as (λ x. Option Plan) [
      | Err x ↦ Some (record { own = m.needs; more = []; asked = m.asked; reached = None; ends = Wrong x })
      | Ok k ↦ option_map (plan_after m k) (go_on_with g.world is.height q k)
    ]) ≡ Some p → May g s (step_for n)
    at m l (Err x) e r =
        elim (next_split s m.needs [] n (subst (λ (y : Plan). IsNext s (plan_needs y) n) (sym (some_same _ p r)) next)) [
          | inl y ↦ whole_load_makes g s (λ x. Unit {0}) is.height ClassNotFound (loaded_by q).loader (loaded_by q).name m l n tt y may
          | inr y ↦ absurd (y.1)
        ]
    at m l (Ok k) e r =
        let on = map_some (plan_after m k) (go_on_with g.world is.height q k) p r in
        elim (next_split s m.needs on.0.needs n (subst (λ (y : Plan). IsNext s (plan_needs y) n) (sym on.2) next)) [
          | inl y ↦ whole_load_makes g s (λ x. Unit {0}) is.height ClassNotFound (loaded_by q).loader (loaded_by q).name m l n tt y may
          | inr y ↦
              let i = load_ok g.world (derive g.world is.height []) ClassNotFound (loaded_by q).loader (loaded_by q).name m k l e in
              let c = derive_gives g.world is.height [] (class (loaded_by q).name i.place) i.below k i.made i.ends in
              let rec = (load_records g.world s (derive g.world is.height []) (derive_records g.world s is.height []) (loaded_by q).loader (loaded_by q).name m k i y.0).1 in
              on_next g s is.height q k on.0 n closed (subst (λ (x : Class). IsRecorded s x) (sym c.0) rec) (lineage_is_derived g.world k c.1) on.1 y.1 may
        ]

step_at : (s : State) (loader place : ℕ) (name : Name) (b : Bool) → (loader == place) ≡ b → after s (if b then Define (class name place) else Initiate name place loader) ≡ with_need s (Entry loader name place)
step_at s loader place name true e = ap (λ (x : ℕ). with_need s (Entry x name place)) (sym (eqb-true loader place e))
step_at s loader place name false e = refl

-- the step adds the need
pub step_adds : (s : State) (n : Need) → after s (step_for n) ≡ with_need s n
step_adds s (Entry loader name place) = step_at s loader place name (loader == place) refl
step_adds s (Equal name a b) = refl
