-- Frames that are pushed, go on and end, and what is left of them.
use Rattle.std.proofs.Common.{◌≡◌, ◌↔◌, ℕ, ◌+◌, ◌≤◌, Bool, true, false, ◌||◌, List, [], ◌∷◌, ◌++◌, length, map, Some, None, refl, sym, ap, subst, ◌∙◌, slice_get, arith, length-append, Option}
use Rattle.std.specs.Prelude.{option_to_list, is_some, IsSome}
use Rattle.std.specs.List.{AllByRecursion, list_any}
use Rattle.std.proofs.lemmas.List.{length-map}
use Rattle.cl_classfile.specs.Files.{Name, File}
use Rattle.cl_model.specs.Homes.{World, home}
use Rattle.cl_model.specs.declared.class.Class.{Class}
use Rattle.cl_model.specs.Classes.{same_class, is_among, Above, AsSuperclass, AsSuperinterface, superclass_of, superinterfaces_of, supers}
use Rattle.cl_model.specs.States.{State, Need, entry_for, Linkage, Keeps, AllMet, Refused, recorded_definer}
use Rattle.cl_model.specs.Plans.{Request, plan_needs}
use Rattle.cl_model.specs.Machine.{Setting, Step, state_after, AnswersPlan}
use Rattle.cl_model.specs.Service.{IsNextNeed}
use Rattle.cl_model.proofs.Bind.{some_same}
use Rattle.cl_model.proofs.Runs.{records_stay}
use Rattle.cl_model.specs.Frames.{Frame, wanted_supertype, Judged, AcceptsFirst, NamedAs, KeepsAccepted, AllKept, IsFrame, IsFrames, path_of, asking_loader, kept_of, with_accepted}
use Rattle.cl_model.proofs.Gone.{refused_answer}

-- ---- frames

pub frame_push : (w : World) (path : List Class) (loader al : ℕ) (name : Name) (xs : List Frame) (x : Frame) (a : Above) → IsFrames w path loader name xs al x.class.name → IsFrame w (path_of path xs) al x.class.name x → wanted_supertype x ≡ Some a → IsFrames w path loader name (xs ++ x ∷ []) x.class.loader a.name
frame_push w path loader al name [] x a f k h =
    (record { named = f.1; found = subst (λ (l : ℕ). home w l name ≡ Some x.class.loader) (sym f.0) (subst (λ (z : Name). home w al z ≡ Some x.class.loader) (sym f.1) k.found); has_file = k.has_file; new = k.new; fits = k.fits }, (a, h, (refl, refl)))
frame_push w path loader al name (y ∷ ys) x a f k h = (f.0, (f.1.0, f.1.1, frame_push w (y.class ∷ path) y.class.loader al f.1.0.name ys x a f.1.2 k h))

abbrev Popped : World → List Class → ℕ → Name → List Frame → Frame → ℕ → Name → Type 0
Popped w path loader name xs x al an = IsFrames w path loader name xs (asking_loader loader xs) x.class.name × IsFrame w (path_of path xs) (asking_loader loader xs) x.class.name x × ((a : Above) × (wanted_supertype x ≡ Some a) × (x.class.loader ≡ al) × (a.name ≡ an))

pub frame_pop : (w : World) (path : List Class) (loader al : ℕ) (name an : Name) (xs : List Frame) (x : Frame) → IsFrames w path loader name (xs ++ x ∷ []) al an → Popped w path loader name xs x al an
frame_pop w path loader al name an [] x f = (
  (refl, f.0.named),
  record { named = refl; found = subst (λ (z : Name). home w loader z ≡ Some x.class.loader) f.0.named f.0.found; has_file = f.0.has_file; new = f.0.new; fits = f.0.fits },
  (f.1.0, f.1.1, f.1.2.0, f.1.2.1),
)
frame_pop w path loader al name an (y ∷ ys) x f =
    let r = frame_pop w (y.class ∷ path) y.class.loader al f.1.0.name an ys x f.1.2 in
    ((f.0, (f.1.0, f.1.1, r.0)), r.1, r.2)

-- what was accepted, and one more that fits
fit_more : (w : World) (c : Class) (ts : List Class) (t : Class) (others : List Above) (a : Above) → AcceptsFirst w c ts others → slice_get others (length ts) ≡ Some a → t.name ≡ a.name → Judged w c a.role None t → AcceptsFirst w c (ts ++ t ∷ []) others
fit_more w c [] t [] a fit h named f = absurd cc
fit_more w c [] t (b ∷ others) a fit h named f = let same : b ≡ a = some_same b a h in subst (λ (z : Above). AcceptsFirst w c (t ∷ []) (z ∷ others)) (sym same) (named, f, tt)
fit_more w c (u ∷ us) t [] a fit h named f = absurd fit
fit_more w c (u ∷ us) t (b ∷ others) a fit h named f = (fit.0, fit.1, fit_more w c us t others a fit.2 h named f)

pub frame_fits : (w : World) (path : List Class) (loader : ℕ) (name : Name) (x : Frame) (a : Above) (t : Class) → IsFrame w path loader name x → wanted_supertype x ≡ Some a → t.name ≡ a.name → Judged w x.class a.role None t → IsFrame w path loader name (with_accepted x t)
frame_fits w path loader name x a t f h named fit = record { named = f.named; found = f.found; has_file = f.has_file; new = f.new; fits = fit_more w x.class x.accepted t (supers x.file) a f.fits h named fit }

pub frame_accept : (w : World) (path : List Class) (loader al : ℕ) (name an : Name) (xs : List Frame) (x : Frame) (a b : Above) (t : Class) → IsFrames w path loader name (xs ++ x ∷ []) al an → wanted_supertype x ≡ Some a → t.name ≡ a.name → Judged w x.class a.role None t → wanted_supertype (with_accepted x t) ≡ Some b → IsFrames w path loader name (xs ++ with_accepted x t ∷ []) x.class.loader b.name
frame_accept w path loader al name an xs x a b t f h named fit want =
    let r = frame_pop w path loader al name an xs x f in
    frame_push w path loader (asking_loader loader xs) name xs (with_accepted x t) b r.0 (frame_fits w (path_of path xs) (asking_loader loader xs) x.class.name x a t r.1 h named fit) want

-- ---- what was accepted

still_kept : (s : State) (es : List Step) (loader : ℕ) (ts : List Class) → AllByRecursion (Keeps s loader) ts → AllByRecursion (Keeps (state_after s es) loader) ts
still_kept s es loader [] h = tt
still_kept s es loader (t ∷ ts) h = (records_stay s es loader t.loader t.name h.0, still_kept s es loader ts h.1)

pub kept_stays : (s : State) (es : List Step) (xs : List Frame) → AllKept s xs → AllKept (state_after s es) xs
kept_stays s es [] h = tt
kept_stays s es (x ∷ xs) h = (still_kept s es x.class.loader x.accepted h.0, kept_stays s es xs h.1)

-- ---- what is refused

pub refused_answers : (g : Setting) (s : State) (r : Request) (n : Need) → IsNextNeed g.world s r n → Refused s n → AnswersPlan g s r (Linkage n)
refused_answers g s r n h k = record { plan = h.plan; planned = h.planned; answered = refused_answer s (plan_needs h.plan) h.plan.ends n h.next k }

-- ---- the path, as frames

or_swap : (a b c : Bool) → (a || (b || c)) ≡ ((b || a) || c)
or_swap true true c = refl
or_swap true false c = refl
or_swap false true c = refl
or_swap false false c = refl

or_none : (a : Bool) → (a || false) ≡ a
or_none true = refl
or_none false = refl

scanned : (xs : List Frame) (path : List Class) (c : Class) → is_among (path_of path xs) c ≡ (list_any (λ x. same_class c x.class) xs || is_among path c)
scanned [] path c = refl
scanned (x ∷ xs) path c = scanned xs (x.class ∷ path) c ∙ or_swap (list_any (λ y. same_class c y.class) xs) (same_class c x.class) (is_among path c)

pub path_scanned : (xs : List Frame) (c : Class) → is_among (path_of [] xs) c ≡ list_any (λ x. same_class c x.class) xs
path_scanned xs c = scanned xs [] c ∙ or_none (list_any (λ x. same_class c x.class) xs)

-- ---- what frames rest on

kept_met : (s : State) (loader : ℕ) (ts : List Class) (ns : List Need) → AllMet s (map (entry_for loader) ts ++ ns) → AllByRecursion (Keeps s loader) ts × AllMet s ns
kept_met s loader [] ns h = (tt, h)
kept_met s loader (t ∷ ts) ns h = let r = kept_met s loader ts ns h.1 in ((h.0, r.0), r.1)

met_kept : (s : State) (loader : ℕ) (ts : List Class) (ns : List Need) → AllByRecursion (Keeps s loader) ts → AllMet s ns → AllMet s (map (entry_for loader) ts ++ ns)
met_kept s loader [] ns h m = m
met_kept s loader (t ∷ ts) ns h m = (h.0, met_kept s loader ts ns h.1 m)

pub kept_is_met : (s : State) (xs : List Frame) → AllMet s (kept_of xs) ↔ AllKept s xs
kept_is_met s xs = (there xs, back xs)
  where
    there : (ys : List Frame) → AllMet s (kept_of ys) → AllKept s ys
    there [] h = tt
    there (y ∷ ys) h = let r = kept_met s y.class.loader y.accepted (kept_of ys) h in (r.0, there ys r.1)

    back : (ys : List Frame) → AllKept s ys → AllMet s (kept_of ys)
    back [] h = tt
    back (y ∷ ys) h = met_kept s y.class.loader y.accepted (kept_of ys) h.0 (back ys h.1)

-- ---- how many supertypes there are

abbrev as_super : Name → Above
as_super n = record { name = n; role = AsSuperclass }

one_at_most : (o : Option Name) → length (map as_super (option_to_list o)) ≤ 1
one_at_most None = omega arith
one_at_most (Some n) = omega arith

pub supers_bounded : (f : File) → length (supers f) ≤ 1 + length f.interfaces
supers_bounded f =
    let a : length (supers f) ≡ length (superclass_of f) + length (superinterfaces_of f) = length-append (superclass_of f) (superinterfaces_of f) in
    let b : length (superclass_of f) ≤ 1 = one_at_most f.super_name in
    let c : length (superinterfaces_of f) ≡ length f.interfaces = length-map f.interfaces (λ n. record { name = n; role = AsSuperinterface }) in
    omega arith

-- ---- under any source

complete_kept : (s : State) (loader : ℕ) (ts : List Class) (others : List Above) → NamedAs ts others → AllByRecursion (Keeps s loader) ts → slice_get others (length ts) ≡ None → AllByRecursion (λ a. IsSome (recorded_definer s.records loader a.name)) others
complete_kept s loader [] [] n h e = tt
complete_kept s loader [] (a ∷ others) n h e = absurd cc
complete_kept s loader (t ∷ ts) [] n h e = absurd n
complete_kept s loader (t ∷ ts) (a ∷ others) n h e = (subst (λ (z : Name). IsSome (recorded_definer s.records loader z)) n.0 (ap is_some h.0), complete_kept s loader ts others n.1 h.1 e)

pub complete_is_kept : (s : State) (x : Frame) → NamedAs x.accepted (supers x.file) → KeepsAccepted s x → wanted_supertype x ≡ None → AllByRecursion (λ a. IsSome (recorded_definer s.records x.class.loader a.name)) (supers x.file)
complete_is_kept s x n h e = complete_kept s x.class.loader x.accepted (supers x.file) n h e

pub accepted_is_named : (w : World) (c : Class) (ts : List Class) (others : List Above) → AcceptsFirst w c ts others → NamedAs ts others
accepted_is_named w c [] others f = tt
accepted_is_named w c (t ∷ ts) [] f = absurd f
accepted_is_named w c (t ∷ ts) (a ∷ others) f = (f.0, accepted_is_named w c ts others f.2)
