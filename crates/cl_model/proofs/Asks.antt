-- The records that a plan needs, and the classes of the lineage that it reaches, are asked for.
use Rattle.std.proofs.Common.{◌≡◌, ◌≤◌, inl, inr, ℕ, zero, suc, Bool, true, false, ◌==◌, ◌||◌, if◌then◌else◌, List, [], ◌∷◌, ◌++◌, length, Option, Some, None, Result, Ok, Err, refl, sym, ap, subst, ◌∙◌, arith, append_assoc}
use Rattle.std.specs.Prelude.{flat_map, option_map}
use Rattle.std.specs.List.{AllByRecursion, list_any}
use Rattle.std.proofs.lemmas.Bool.{eqb-true, and_parts}
use Rattle.cl_descriptors.proofs.Codec.{map_some, then_some}
use Rattle.cl_classfile.specs.Files.{Name, Key, Member, Reference, ToClass, ToField, ToMethod, ToInterfaceMethod, reference, same_name}
use Rattle.cl_model.specs.Homes.{World, home}
use Rattle.cl_model.specs.declared.class.Class.{Class}
use Rattle.cl_model.specs.Classes.{class, same_class, is_among, Error, ClassNotFound, NoClassDef, NoSuchField, NoSuchMethod, IllegalAccess, read_class, misfit, Above, superclass_of, superinterfaces_of}
use Rattle.cl_model.specs.Lineages.{Forest, Bare, Kin, alone, classes, postorder, lineage, field_of, method_of, lookup_field, member_accessible}
use Rattle.cl_model.specs.Preparation.{class_names, constraints_of, equals_of}
use Rattle.cl_model.specs.Ancestors.{EachClassOnce}
use Rattle.cl_model.specs.States.{Need, Entry, Equal, Verdict, IsField, IsMethod, IsLinked, Wrong}
use Rattle.cl_model.specs.Works.{Work, Made, Ask, end_with, need, ask, or_fail, unless_wrong, of_result, after_made, go_on, ◌>>=◌}
use Rattle.cl_model.specs.Plans.{initiating_needs, load_by, loads_above, derive_new, derive, load, class_named, inaccessible, resolve_found, resolve_field, resolve_method, resolve_in, through, resolve_named, flags_of, Request, Load, Resolve, Link, loaded_by, go_on_with, Plan, plan_after, plan_from, plan_needs, same_ask, distinct}
use Rattle.cl_model.specs.Machine.{HasLineage, IsPlan}
use Rattle.cl_model.proofs.Bind.{some_same, ok_same, step_is}
use Rattle.cl_model.proofs.Heights.{loaded, found, sought, grown, others_after, checked, finished, interfaces_next, superclass_next, circle_or}
use Rattle.cl_model.proofs.Derived.{load_ok, above_ok, derive_ok, all_both}
use Rattle.cl_model.proofs.Runs.{names_equal}
use Rattle.cl_model.proofs.Planned.{resolved, imposed as imposed_for, field_found, looked_up, method_found, method_sought, wrong_kind, one_lineage}
use Rattle.cl_model.proofs.Progress.{IsEquality, equals_are, constraints_are, flat_are, once_kept}
use Rattle.cl_model.proofs.Closed.{all_left, all_right}
use Rattle.cl_model.proofs.Reached.{reached}
use Rattle.cl_model.proofs.Ancestors.{same_self}
use Rattle.cl_model.proofs.Marks.{In, in_left, in_right, all_in, without}

-- ---- what a plan's needs are asked of

-- a loader was asked for the name of a record
abbrev pub Asked : List Ask → Need → Type 0
Asked asks (Entry loader name place) = (let a : Ask = record { loader = loader; name = name } in In a asks)
Asked asks (Equal name a b) = Unit {0}

asked_left : (xs ys : List Ask) (n : Need) → Asked xs n → Asked (xs ++ ys) n
asked_left xs ys (Entry loader name place) h = in_left (record { loader = loader; name = name }) xs ys h
asked_left xs ys (Equal name a b) h = tt

all_asked : (xs ys : List Ask) (ns : List Need) → AllByRecursion (Asked xs) ns → AllByRecursion (Asked (xs ++ ys)) ns
all_asked xs ys [] h = tt
all_asked xs ys (n ∷ ns) h = (asked_left xs ys n h.0, all_asked xs ys ns h.1)

-- the records that work needs are asked for, by it or before
abbrev Covers : {A : Type 0} → List Ask → Work A → Type 0
Covers before a = (m : Made _) → a ≡ Some m → AllByRecursion (Asked (before ++ m.asked)) m.needs

covers_then : {A B : Type 0} (before : List Ask) (a : Work A) (f : A → Work B) → Covers before a → ((x : A) (m : Made A) → a ≡ Some m → m.ends ≡ Ok x → Covers (before ++ m.asked) (f x)) → Covers before (a >>= f)
covers_then before None f one two z h = absurd cc
covers_then {A} {B} before (Some m) f one two z h = at m.ends refl h
  where
    last : (x : A) → m.ends ≡ Ok x → (y : Made B) → f x ≡ Some y → after_made m.needs m.asked y ≡ z → AllByRecursion (Asked (before ++ z.asked)) z.needs
    last x e y k same =
        subst (λ (v : Made B). AllByRecursion (Asked (before ++ v.asked)) v.needs) same
        (all_both (Asked (before ++ (m.asked ++ y.asked))) m.needs y.needs
        (subst (λ (l : List Ask). AllByRecursion (Asked l) m.needs) (append_assoc before m.asked y.asked) (all_asked (before ++ m.asked) y.asked m.needs (one m refl)))
        (subst (λ (l : List Ask). AllByRecursion (Asked l) y.needs) (append_assoc before m.asked y.asked) (two x m refl e y k)))

    at : (r : Result A Error) → m.ends ≡ r → go_on m.needs m.asked r f ≡ Some z → AllByRecursion (Asked (before ++ z.asked)) z.needs
    at (Err x) e k = subst (λ (v : Made B). AllByRecursion (Asked (before ++ v.asked)) v.needs) (some_same _ z k) (one m refl)
    at (Ok x) e k = let y = map_some (after_made m.needs m.asked) (f x) z k in last x e y.0 y.1 y.2

-- work without needs
none_covers : {A : Type 0} (before : List Ask) (m : Made A) → m.needs ≡ [] → Covers before (Some m)
none_covers before m e z h = subst (λ (ns : List Need). AllByRecursion (Asked (before ++ z.asked)) ns) (sym (ap (λ (v : Made _). v.needs) (sym (some_same m z h)) ∙ e)) tt

or_fail_covers : {A : Type 0} (before : List Ask) (e : Error) (o : Option A) → Covers before (or_fail e o)
or_fail_covers before e None = none_covers before _ refl
or_fail_covers before e (Some x) = none_covers before _ refl

unless_covers : (before : List Ask) (o : Option Error) → Covers before (unless_wrong o)
unless_covers before None = none_covers before _ refl
unless_covers before (Some e) = none_covers before _ refl

-- a need of a name that was asked for before
need_covers : (before : List Ask) (ns : List Need) → AllByRecursion (Asked before) ns → Covers before (need ns)
need_covers before ns all z h =
    let same = some_same _ z h in
    subst (λ (v : Made (Unit {0})). AllByRecursion (Asked (before ++ v.asked)) v.needs) same (all_asked before [] ns all)

initiating_asked : (before : List Ask) (loader place : ℕ) (name : Name) (b : Bool) → (let a : Ask = record { loader = loader; name = name } in In a before) → AllByRecursion (Asked before) (if b then [] else Entry loader name place ∷ [])
initiating_asked before loader place name true h = tt
initiating_asked before loader place name false h = (h, tt)

-- the last that was asked for, with more behind it
asked_there : (before more last : List Ask) (a : Ask) → In a (((before ++ a ∷ []) ++ more) ++ last)
asked_there before more last a = in_left a ((before ++ a ∷ []) ++ more) last (in_left a (before ++ a ∷ []) more (in_right a before (a ∷ []) (inl refl)))

load_covers : (w : World) (d : Class → Work Kin) → ((before : List Ask) (c : Class) → Covers before (d c)) → (before : List Ask) (absent : Class → Error) (loader : ℕ) (name : Name) → Covers before (load_by w d absent loader name)
load_covers w d ih before absent loader name =
    let a : Ask = record { loader = loader; name = name } in
    covers_then before (ask loader name) (sought w d absent loader name) (none_covers before _ refl) (λ u x hx ex.
    let one = before ++ x.asked in
    covers_then one (or_fail (absent (class name loader)) (home w loader name)) (found w d loader name) (or_fail_covers one (absent (class name loader)) (home w loader name)) (λ place y hy ey.
    let two = one ++ y.asked in
    covers_then two (d (class name place)) (loaded w loader name place) (ih two (class name place)) (λ k z hz ez.
    let three = two ++ z.asked in
    covers_then three (need (initiating_needs loader name place)) (λ (b : Unit {0}). end_with k)
    (need_covers three (initiating_needs loader name place) (initiating_asked three loader place name (loader == place)
    (subst (λ (l : List Ask). In a (((before ++ l) ++ y.asked) ++ z.asked)) (ap (λ (v : Made (Unit {0})). v.asked) (some_same _ x hx)) (asked_there before y.asked z.asked a))))
    (λ b v hv ev. none_covers (three ++ v.asked) _ refl))))

above_covers : (w : World) (d : Class → Work Kin) → ((before : List Ask) (c : Class) → Covers before (d c)) → (before : List Ask) (c : Class) (others : List Above) → Covers before (loads_above w d c others)
above_covers w d ih before c [] = none_covers before _ refl
above_covers w d ih before c (a ∷ others) =
    covers_then before (load_by w d NoClassDef c.loader a.name) (checked w d c a others) (load_covers w d ih before NoClassDef c.loader a.name) (λ k x hx ex.
    covers_then (before ++ x.asked) (unless_wrong (misfit c a.role k.class k.file)) (others_after w d c others k) (unless_covers (before ++ x.asked) (misfit c a.role k.class k.file)) (λ b y hy ey.
    covers_then ((before ++ x.asked) ++ y.asked) (loads_above w d c others) (grown k) (above_covers w d ih ((before ++ x.asked) ++ y.asked) c others) (λ ks z hz ez. none_covers _ _ refl)))

new_covers : (w : World) (d : Class → Work Kin) → ((before : List Ask) (c : Class) → Covers before (d c)) → (before : List Ask) (c : Class) → (let a : Ask = record { loader = c.loader; name = c.name } in In a before) → Covers before (derive_new w d c)
new_covers w d ih before c own =
    let a : Ask = record { loader = c.loader; name = c.name } in
    covers_then before (of_result (read_class w c)) (superclass_next w d c) (none_covers before _ refl) (λ f x hx ex.
    let one = before ++ x.asked in
    covers_then one (loads_above w d c (superclass_of f)) (interfaces_next w d c f) (above_covers w d ih one c (superclass_of f)) (λ sup u hu eu.
    let two = one ++ u.asked in
    covers_then two (loads_above w d c (superinterfaces_of f)) (finished c f sup) (above_covers w d ih two c (superinterfaces_of f)) (λ ints v hv ev.
    let three = two ++ v.asked in
    covers_then three (need (Entry c.loader c.name c.loader ∷ [])) (λ (b : Unit {0}). end_with (record { class = c; file = f; superclass = sup; interfaces = ints }))
    (need_covers three (Entry c.loader c.name c.loader ∷ []) (in_left a two v.asked (in_left a one u.asked (in_left a before x.asked own)), tt))
    (λ b y hy ey. none_covers (three ++ y.asked) _ refl))))

circle_covers : (before : List Ask) (c : Class) (a : Work Kin) (t : Bool) → Covers before a → Covers before (circle_or c a t)
circle_covers before c a true h = none_covers before _ refl
circle_covers before c a false h = h

derive_covers : (w : World) (n : ℕ) (path : List Class) (before : List Ask) (c : Class) → Covers before (derive w n path c)
derive_covers w zero path before c = λ m h. absurd cc
derive_covers w (suc n) path before c =
    let a : Ask = record { loader = c.loader; name = c.name } in
    covers_then before (ask c.loader c.name) (λ (u : Unit {0}). circle_or c (derive_new w (derive w n (c ∷ path)) c) (is_among path c)) (none_covers before _ refl) (λ u x hx ex.
    circle_covers (before ++ x.asked) c (derive_new w (derive w n (c ∷ path)) c) (is_among path c)
    (new_covers w (derive w n (c ∷ path)) (λ b t. derive_covers w n (c ∷ path) b t) (before ++ x.asked) c
    (subst (λ (l : List Ask). In a (before ++ l)) (ap (λ (v : Made (Unit {0})). v.asked) (some_same _ x hx)) (in_right a before (a ∷ []) (inl refl)))))

whole_load_covers : (w : World) (n : ℕ) (absent : Class → Error) (loader : ℕ) (name : Name) (before : List Ask) → Covers before (load w n absent loader name)
whole_load_covers w n absent loader name before = load_covers w (derive w n []) (λ b c. derive_covers w n [] b c) before absent loader name

equality_asked : (asks : List Ask) (ns : List Need) → AllByRecursion IsEquality ns → AllByRecursion (Asked asks) ns
equality_asked asks [] h = tt
equality_asked asks (Entry loader name place ∷ ns) h = absurd h.0
equality_asked asks (Equal name a b ∷ ns) h = (tt, equality_asked asks ns h.1)

found_covers : (before : List Ask) (d c owner : Kin) (member : Option Member) (key : Key) (v : Verdict) → Covers before (resolve_found d c owner member key v)
found_covers before d c owner member key v =
    covers_then before (unless_wrong (if member_accessible d owner (flags_of member) c then None else Some (IllegalAccess owner.class))) (imposed_for d owner key v) (unless_covers before _) (λ a x hx ex.
    covers_then (before ++ x.asked) (need (equals_of key owner.class.loader d.class.loader)) (λ (b : Unit {0}). end_with v)
    (need_covers (before ++ x.asked) (equals_of key owner.class.loader d.class.loader) (equality_asked (before ++ x.asked) _ (equals_are (class_names key.descriptor) owner.class.loader d.class.loader)))
    (λ b y hy ey. none_covers _ _ refl))

field_covers : (before : List Ask) (d : Kin) (key : Key) (c : Kin) → Covers before (resolve_field d key c)
field_covers before d key c = covers_then before (or_fail (NoSuchField c.class) (lookup_field c key)) (field_found d key c) (or_fail_covers before (NoSuchField c.class) (lookup_field c key)) (λ owner x hx ex. found_covers (before ++ x.asked) d c owner (field_of owner key) key (IsField owner.class key))

method_covers : (before : List Ask) (b : Bool) (d : Kin) (key : Key) (c : Kin) → Covers before (resolve_method b d key c)
method_covers before b d key c =
    covers_then before (unless_wrong (wrong_kind b c)) (method_sought b d key c) (unless_covers before (wrong_kind b c)) (λ a x hx ex.
    covers_then (before ++ x.asked) (or_fail (NoSuchMethod c.class) (looked_up b c key)) (method_found d key c) (or_fail_covers (before ++ x.asked) (NoSuchMethod c.class) (looked_up b c key)) (λ owner y hy ey. found_covers ((before ++ x.asked) ++ y.asked) d c owner (method_of owner key) key (IsMethod owner.class key)))

in_covers : (before : List Ask) (d c : Kin) (r : Reference) → Covers before (resolve_in d r c)
in_covers before d c (ToClass t) = none_covers before _ refl
in_covers before d c (ToField t key) = field_covers before d key c
in_covers before d c (ToMethod t key) = method_covers before false d key c
in_covers before d c (ToInterfaceMethod t key) = method_covers before true d key c

named_covers : (w : World) (n : ℕ) (before : List Ask) (d : Kin) (r : Reference) (o : Option Name) → Covers before (resolve_named w n d r o)
named_covers w n before d r None = none_covers before _ refl
named_covers w n before d r (Some name) =
    covers_then before (load w n NoClassDef d.class.loader name) (through d r) (whole_load_covers w n NoClassDef d.class.loader name before) (λ c x hx ex.
    covers_then (before ++ x.asked) (unless_wrong (inaccessible d c)) (λ (a : Unit {0}). resolve_in d r c) (unless_covers (before ++ x.asked) _) (λ a y hy ey. in_covers ((before ++ x.asked) ++ y.asked) d c r))

resolved_covers : (w : World) (n : ℕ) (before : List Ask) (d : Kin) (o : Option Reference) → Covers before (resolved w n d o)
resolved_covers w n before d None = none_covers before _ refl
resolved_covers w n before d (Some r) = named_covers w n before d r (class_named r)

on_covers : (w : World) (n : ℕ) (before : List Ask) (q : Request) (k : Kin) → Covers before (go_on_with w n q k)
on_covers w n before (Load loader name) k = none_covers before _ refl
on_covers w n before (Resolve loader name i) k = resolved_covers w n before k (reference k.file i)
on_covers w n before (Link loader name) k =
    covers_then before (need (flat_map constraints_of (lineage k))) (λ (a : Unit {0}). end_with (IsLinked k.class))
    (need_covers before (flat_map constraints_of (lineage k)) (equality_asked before _ (flat_are constraints_of constraints_are (lineage k))))
    (λ a x hx ex. none_covers _ _ refl)

-- the records that a plan needs are asked for
pub plan_covers : (w : World) (q : Request) (p : Plan) → IsPlan w q p → AllByRecursion (Asked p.asked) (plan_needs p)
plan_covers w q p is =
    let n = is.height in
    let l = then_some (plan_from w n q) (load w n ClassNotFound (loaded_by q).loader (loaded_by q).name) p is.planned in
    at l.0 (whole_load_covers w n ClassNotFound (loaded_by q).loader (loaded_by q).name [] l.0 l.1) l.0.ends l.2
  where
    at : (m : Made Kin) → AllByRecursion (Asked m.asked) m.needs → (e : Result Kin Error) → (elim e as (λ x. Option Plan) [
      | Err x ↦ Some (record { own = m.needs; more = []; asked = m.asked; reached = None; ends = Wrong x })
      | Ok k ↦ option_map (plan_after m k) (go_on_with w is.height q k)
    ]) ≡ Some p → AllByRecursion (Asked p.asked) (plan_needs p)
    at m all (Err x) h = subst (λ (y : Plan). AllByRecursion (Asked y.asked) (plan_needs y)) (some_same _ p h) (all_both (Asked m.asked) m.needs [] all tt)
    at m all (Ok k) h =
        let on = map_some (plan_after m k) (go_on_with w is.height q k) p h in
        subst (λ (y : Plan). AllByRecursion (Asked y.asked) (plan_needs y)) on.2
        (all_both (Asked (m.asked ++ on.0.asked)) m.needs on.0.needs (all_asked m.asked on.0.asked m.needs all) (on_covers w is.height m.asked q k on.0 on.1))

-- ---- the classes of a lineage stand in the plan by their own records

abbrev OwnIn : List Need → Kin → Type 0
OwnIn ns k = In (Entry k.class.loader k.class.name k.class.loader) ns

owns_left : (ns more : List Need) (ks : List Kin) → AllByRecursion (OwnIn ns) ks → AllByRecursion (OwnIn (ns ++ more)) ks
owns_left ns more [] h = tt
owns_left ns more (k ∷ ks) h = (in_left (Entry k.class.loader k.class.name k.class.loader) ns more h.0, owns_left ns more ks h.1)

owns_right : (before ns : List Need) (ks : List Kin) → AllByRecursion (OwnIn ns) ks → AllByRecursion (OwnIn (before ++ ns)) ks
owns_right before ns [] h = tt
owns_right before ns (k ∷ ks) h = (in_right (Entry k.class.loader k.class.name k.class.loader) before ns h.0, owns_right before ns ks h.1)

-- what a derivation below has
abbrev Owns : (Class → Work Kin) → Type 0
Owns d = (s : Class) (m : Made Kin) (k : Kin) → d s ≡ Some m → m.ends ≡ Ok k → AllByRecursion (OwnIn m.needs) (postorder (alone k))

above_owns : (w : World) (d : Class → Work Kin) → Owns d → (c : Class) (others : List Above) (m : Made Forest) (fs : Forest) → loads_above w d c others ≡ Some m → m.ends ≡ Ok fs → AllByRecursion (OwnIn m.needs) (postorder fs)
above_owns w d ih c [] m fs h e = subst (λ (x : Forest). AllByRecursion (OwnIn m.needs) (postorder x)) (ok_same Bare fs m.ends (step_is _ m h).1 e) tt
above_owns w d ih c (a ∷ others) m fs h e =
    let one = above_ok w d c a others m fs h e in
    let k = one.kin in
    let before = postorder k.superclass ++ postorder k.interfaces in
    let below = ih (class a.name one.load.place) one.load.below k one.load.made one.load.ends in
    let first : AllByRecursion (OwnIn m.needs) (before ++ k ∷ []) =
    subst (λ (ns : List Need). AllByRecursion (OwnIn ns) (before ++ k ∷ [])) (sym one.needs)
    (owns_left one.one.needs (one.rest.needs ++ []) (before ++ k ∷ [])
    (subst (λ (ns : List Need). AllByRecursion (OwnIn ns) (before ++ k ∷ [])) (sym one.load.needs) (owns_left one.load.below.needs (initiating_needs c.loader a.name one.load.place ++ []) (before ++ k ∷ []) below))) in
    let rest : AllByRecursion (OwnIn m.needs) (postorder one.forest) =
    subst (λ (ns : List Need). AllByRecursion (OwnIn ns) (postorder one.forest)) (sym one.needs)
    (owns_right one.one.needs (one.rest.needs ++ []) (postorder one.forest) (owns_left one.rest.needs [] (postorder one.forest) (above_owns w d ih c others one.rest one.forest one.made one.ends))) in
    subst (λ (x : Forest). AllByRecursion (OwnIn m.needs) (postorder x)) one.grows
    (all_both (OwnIn m.needs) before (k ∷ postorder one.forest) (all_left (OwnIn m.needs) before (k ∷ []) first) ((all_right (OwnIn m.needs) before (k ∷ []) first).0, rest))

derive_owns : (w : World) (n : ℕ) (path : List Class) → Owns (derive w n path)
derive_owns w zero path s m k h e = absurd cc
derive_owns w (suc n) path s m k h e =
    let at = derive_ok w n path s m k h e in
    let new = at.new in
    let ih = derive_owns w n (s ∷ path) in
    let own = Entry s.loader s.name s.loader ∷ [] in
    let up = above_owns w (derive w n (s ∷ path)) ih s (superclass_of new.file) new.up new.sup new.up_made new.up_ends in
    let over = above_owns w (derive w n (s ∷ path)) ih s (superinterfaces_of new.file) new.over new.ints new.over_made new.over_ends in
    let needs = new.up.needs ++ (new.over.needs ++ own) in
    let all : AllByRecursion (OwnIn needs) ((postorder new.sup ++ postorder new.ints) ++ record { class = s; file = new.file; superclass = new.sup; interfaces = new.ints } ∷ []) =
    all_both (OwnIn needs) (postorder new.sup ++ postorder new.ints) (record { class = s; file = new.file; superclass = new.sup; interfaces = new.ints } ∷ [])
    (all_both (OwnIn needs) (postorder new.sup) (postorder new.ints) (owns_left new.up.needs (new.over.needs ++ own) (postorder new.sup) up) (owns_right new.up.needs (new.over.needs ++ own) (postorder new.ints) (owns_left new.over.needs own (postorder new.ints) over)))
    (in_right (Entry s.loader s.name s.loader) new.up.needs (new.over.needs ++ own) (in_right (Entry s.loader s.name s.loader) new.over.needs own (inl refl)), tt) in
    subst (λ (ns : List Need). AllByRecursion (OwnIn ns) (postorder (alone k))) (sym (at.needs ∙ new.needs)) (subst (λ (x : Kin). AllByRecursion (OwnIn needs) (postorder (alone x))) new.kin all)

-- a class is asked for
abbrev pub AskedFor : List Ask → Kin → Type 0
AskedFor asks k = (let a : Ask = record { loader = k.class.loader; name = k.class.name } in In a asks)

-- the classes of the lineage that a plan reaches are asked for
pub reached_asked : (w : World) (q : Request) (p : Plan) (d : Class) (k : Kin) → IsPlan w q p → p.reached ≡ Some d → HasLineage w d k → AllByRecursion (AskedFor p.asked) (lineage k)
reached_asked w q p d k is r lin =
    let n = is.height in
    let x = reached w n q p d is.planned r in
    let i = load_ok w (derive w n []) ClassNotFound (loaded_by q).loader (loaded_by q).name x.loading x.kin x.loaded x.ends in
    let below = derive_owns w n [] (class (loaded_by q).name i.place) i.below x.kin i.made i.ends in
    let same : x.kin ≡ k = one_lineage w d x.kin k x.lineage lin in
    let in_load : AllByRecursion (OwnIn x.loading.needs) (postorder (alone x.kin)) = subst (λ (ns : List Need). AllByRecursion (OwnIn ns) (postorder (alone x.kin))) (sym i.needs) (owns_left i.below.needs (initiating_needs (loaded_by q).loader (loaded_by q).name i.place ++ []) (postorder (alone x.kin)) below) in
    let in_plan : AllByRecursion (OwnIn (plan_needs p)) (postorder (alone x.kin)) = owns_left p.own p.more (postorder (alone x.kin)) (subst (λ (y : Plan). AllByRecursion (OwnIn y.own) (postorder (alone x.kin))) (sym x.is) in_load) in
    let asked = plan_covers w q p is in
    subst (λ (y : Kin). AllByRecursion (AskedFor p.asked) (lineage y)) same (once_kept (AskedFor p.asked) [] (postorder (alone x.kin)) (each asked (postorder (alone x.kin)) in_plan))
  where
    each : AllByRecursion (Asked p.asked) (plan_needs p) → (ks : List Kin) → AllByRecursion (OwnIn (plan_needs p)) ks → AllByRecursion (AskedFor p.asked) ks
    each asked [] h = tt
    each asked (z ∷ ks) h = (all_in (Asked p.asked) (plan_needs p) (Entry z.class.loader z.class.name z.class.loader) asked h.0, each asked ks h.1)

-- ---- what is asked, each once

pub same_asked : (a b : Ask) → same_ask a b ≡ true → a ≡ b
same_asked a b h =
    let both = and_parts (a.loader == b.loader) (same_name a.name b.name) h in
    ap (λ (l : ℕ). let x : Ask = record { loader = l; name = a.name } in x) (eqb-true a.loader b.loader both.0) ∙ ap (λ (n : Name). let x : Ask = record { loader = b.loader; name = n } in x) (names_equal a.name b.name both.1)

any_in : (a : Ask) (asks : List Ask) → list_any (same_ask a) asks ≡ true → In a asks
any_in a [] h = absurd cc
any_in a (b ∷ asks) h = at (same_ask a b) refl (any_in a asks) h
  where
    at : (t : Bool) → same_ask a b ≡ t → (list_any (same_ask a) asks ≡ true → In a asks) → (t || list_any (same_ask a) asks) ≡ true → In a (b ∷ asks)
    at true e ih k = inl (sym (same_asked a b e))
    at false e ih k = inr (ih k)

pub distinct_has : (a : Ask) (asks : List Ask) → In a asks → In a (distinct asks)
distinct_has a [] h = absurd h
distinct_has a (b ∷ asks) h = at (list_any (same_ask b) asks) refl (distinct_has a asks) h
  where
    at : (t : Bool) → list_any (same_ask b) asks ≡ t → (In a asks → In a (distinct asks)) → In a (b ∷ asks) → In a (if t then distinct asks else b ∷ distinct asks)
    at true e ih (inl k) = ih (subst (λ (x : Ask). In x asks) k (any_in b asks e))
    at true e ih (inr k) = ih k
    at false e ih (inl k) = inl k
    at false e ih (inr k) = inr (ih k)

-- different classes that are asked for are no more than the names that are
not_among : (ks : List Kin) (c : Class) (x : Kin) → is_among (classes ks) c ≡ false → In x ks → x.class ≡ c → ⊥
not_among [] c x out h e = h
not_among (k ∷ ks) c x out h e = at (same_class c k.class) refl (λ o i. not_among ks c x o i e) out h
  where
    at : (b : Bool) → same_class c k.class ≡ b → (is_among (classes ks) c ≡ false → In x ks → ⊥) → (b || is_among (classes ks) c) ≡ false → In x (k ∷ ks) → ⊥
    at true s ih o i = absurd cc
    at false s ih o (inl i) = absurd (let t : same_class c k.class ≡ true = subst (λ (y : Class). same_class c y ≡ true) (sym (ap (λ (z : Kin). z.class) i ∙ e)) (same_self c) in cc)
    at false s ih o (inr i) = ih o i

class_of_ask : (c d : Class) → (let a : Ask = record { loader = c.loader; name = c.name } in a) ≡ record { loader = d.loader; name = d.name } → c ≡ d
class_of_ask c d h = ap (λ (a : Ask). class a.name a.loader) h

pub lineage_within : (ks : List Kin) (asks : List Ask) → EachClassOnce ks → ((x : Kin) → In x ks → AskedFor asks x) → length ks ≤ length asks
lineage_within [] asks once all = omega arith
lineage_within (k ∷ ks) asks once all =
    let a : Ask = record { loader = k.class.loader; name = k.class.name } in
    let w = without a asks (all k (inl refl)) in
    let rest : length ks ≤ length w.rest = lineage_within ks w.rest once.1 (λ x i. w.keeps (record { loader = x.class.loader; name = x.class.name }) (all x (inr i)) (λ e. not_among ks k.class x once.0 i (sym (class_of_ask k.class x.class e)))) in
    let shorter = w.shorter in
    omega arith
