-- What tables tell of lists of needs, place by place.
use Rattle.std.proofs.Common.{◌≡◌, ◌∙◌, ◌<◌, ◌≤◌, ◌+◌, ℕ, zero, suc, Bool, true, false, List, [], ◌∷◌, ◌++◌, length, map, Option, Some, None, sym, ap, subst, arith}
use Rattle.std.specs.Prelude.{slice_get, take, IfSome}
use Rattle.std.specs.List.{AllByRecursion}
use Rattle.cl_model.specs.declared.class.Class.{Class}
use Rattle.cl_model.specs.Classes.{class, Above}
use Rattle.cl_model.specs.States.{State, Need, AllMet}
use Rattle.cl_model.specs.Frames.{Frame, KeepsAccepted, kept_of}
use Rattle.cl_model.proofs.Bind.{some_same}
use Rattle.cl_model.proofs.Closed.{met_both}
use Rattle.cl_model.proofs.Progress.{met_split}
use Rattle.cl_model.proofs.Stacks.{kept_is_met}
use Rattle.cl_hierarchy.specs.Frames.{accepted_of}
use Rattle.cl_hierarchy.specs.Imposed.{Listed, needs_of}
use Rattle.cl_constraints.specs.Books.{TellsOf, Wherever}
use Rattle.cl_findings.specs.References.{all_needs}

-- ---- what a frame accepted at a place

pub none_named : (P : Class → Type 0) (others : List Above) (definers : List ℕ) (at : ℕ) → slice_get others at ≡ None → IfSome (slice_get (accepted_of others definers) at) P
none_named P [] definers at e = tt
none_named P (a ∷ others) [] at e = tt
none_named P (a ∷ others) (p ∷ definers) zero e = absurd cc
none_named P (a ∷ others) (p ∷ definers) (suc at) e = none_named P others definers at e

pub none_placed : (P : Class → Type 0) (others : List Above) (definers : List ℕ) (at : ℕ) → length definers ≤ at → IfSome (slice_get (accepted_of others definers) at) P
none_placed P [] definers at e = tt
none_placed P (a ∷ others) [] at e = tt
none_placed P (a ∷ others) (p ∷ definers) zero e = absurd (omega arith)
none_placed P (a ∷ others) (p ∷ definers) (suc at) e = none_placed P others definers at (omega arith)

pub both_there : (others : List Above) (definers : List ℕ) (at : ℕ) (a : Above) (p : ℕ) → slice_get others at ≡ Some a → slice_get definers at ≡ Some p → slice_get (accepted_of others definers) at ≡ Some (class a.name p)
both_there [] definers at a p e f = absurd cc
both_there (b ∷ others) [] at a p e f = absurd cc
both_there (b ∷ others) (q ∷ definers) zero a p e f =
    let s : b ≡ a = cc in
    let t : q ≡ p = cc in
    ap (λ (x : Above). Some (class x.name q)) s ∙ ap (λ (l : ℕ). Some (class a.name l)) t
both_there (b ∷ others) (q ∷ definers) (suc at) a p e f = both_there others definers at a p e f

pub accepted_within : (others : List Above) (definers : List ℕ) → length (accepted_of others definers) ≤ length definers
accepted_within [] definers = omega arith
accepted_within (a ∷ others) [] = omega arith
accepted_within (a ∷ others) (p ∷ definers) = let l = accepted_within others definers in omega (arith, l)

-- ---- lists, place by place

pub all_there : {A : Type 0} (P : A → Type 0) (xs : List A) (n : ℕ) → length xs ≤ n → ((k : ℕ) → k < n → IfSome (slice_get xs k) P) → AllByRecursion P xs
all_there P [] n le h = tt
all_there P (x ∷ xs) zero le h = absurd (omega arith)
all_there P (x ∷ xs) (suc n) le h = (h 0 (omega arith), all_there P xs n (omega arith) (λ k lt. h (suc k) (omega arith)))

pub one_there : {A : Type 0} (P : A → Type 0) (xs : List A) (k : ℕ) → AllByRecursion P xs → IfSome (slice_get xs k) P
one_there P [] k h = tt
one_there P (x ∷ xs) zero h = h.0
one_there P (x ∷ xs) (suc k) h = one_there P xs k h.1

-- the first so many of a list
pub first_there : {A : Type 0} (P : A → Type 0) (xs : List A) (n : ℕ) → ((k : ℕ) → k < n → IfSome (slice_get xs k) P) → AllByRecursion P (take n xs)
first_there P [] zero h = tt
first_there P [] (suc n) h = tt
first_there P (x ∷ xs) zero h = tt
first_there P (x ∷ xs) (suc n) h = (h 0 (omega arith), first_there P xs n (λ k lt. h (suc k) (omega arith)))

pub one_of_first : {A : Type 0} (P : A → Type 0) (xs : List A) (n k : ℕ) → k < n → AllByRecursion P (take n xs) → IfSome (slice_get xs k) P
one_of_first P [] n k lt h = tt
one_of_first P (x ∷ xs) zero k lt h = absurd (omega arith)
one_of_first P (x ∷ xs) (suc n) zero lt h = h.0
one_of_first P (x ∷ xs) (suc n) (suc k) lt h = one_of_first P xs n k (omega arith) h.1

-- one place more
pub one_more_there : {A : Type 0} (P : A → Type 0) (xs : List A) (n : ℕ) (x : A) → slice_get xs n ≡ Some x → ((k : ℕ) → k < n → IfSome (slice_get xs k) P) → P x → (k : ℕ) → k < n + 1 → IfSome (slice_get xs k) P
one_more_there P [] n x at before here k lt = tt
one_more_there P (y ∷ ys) zero x at before here zero lt = subst P (sym (some_same y x at)) here
one_more_there P (y ∷ ys) zero x at before here (suc k) lt = absurd (omega (arith, lt))
one_more_there P (y ∷ ys) (suc n) x at before here zero lt = before 0 (omega arith)
one_more_there P (y ∷ ys) (suc n) x at before here (suc k) lt = one_more_there P ys n x at (λ j l. before (suc j) (omega (arith, l))) here k (omega (arith, lt))

pub mapped : {A B : Type 0} (P : B → Type 0) (f : A → B) (xs : List A) → AllByRecursion (λ x. P (f x)) xs → AllByRecursion P (map f xs)
mapped P f [] h = tt
mapped P f (x ∷ xs) h = (h.0, mapped P f xs h.1)

pub unmapped : {A B : Type 0} (P : B → Type 0) (f : A → B) (xs : List A) → AllByRecursion P (map f xs) → AllByRecursion (λ x. P (f x)) xs
unmapped P f [] h = tt
unmapped P f (x ∷ xs) h = (h.0, unmapped P f xs h.1)

-- ---- tests

-- what stands at a place
pub tells_some : {A : Type 0} (stands : State → Type 0) (P : State → A → Type 0) (o : Option A) (a : A) (b : Bool) → o ≡ Some a → TellsOf stands b (λ s. P s a) → TellsOf stands b (λ s. IfSome o (P s))
tells_some {A = A} stands P o a b e h = subst (λ (o : Option A). TellsOf stands b (λ s. IfSome o (P s))) (sym e) h

-- the same told in other words
pub tells_same : (stands : State → Type 0) (P Q : State → Type 0) (b : Bool) → ((s : State) → stands s → P s → Q s) → ((s : State) → stands s → Q s → P s) → TellsOf stands b P → TellsOf stands b Q
tells_same stands P Q true to from h = λ s at. to s at (h s at)
tells_same stands P Q false to from h = λ s at q. h s at (from s at q)

-- a test that failed tells that something does not hold
pub tells_fails : (stands : State → Type 0) (P : State → Type 0) (b : Bool) → b ≡ false → Wherever stands (λ s. P s → ⊥) → TellsOf stands b P
tells_fails stands P true e h = absurd cc
tells_fails stands P false e h = h

-- ---- what the end of a load rests on, in its three parts

pub parts_both : (s : State) (a b c : List Need) → AllMet s a → AllMet s b → AllMet s c → AllMet s (a ++ (b ++ c))
parts_both s a b c x y z = met_both s a (b ++ c) x (met_both s b c y z)

pub part_first : (s : State) (a b c : List Need) → AllMet s (a ++ (b ++ c)) → AllMet s a
part_first s a b c h = (met_split s a (b ++ c) h).0

pub part_second : (s : State) (a b c : List Need) → AllMet s (a ++ (b ++ c)) → AllMet s b
part_second s a b c h = (met_split s b c (met_split s a (b ++ c) h).1).0

pub part_last : (s : State) (a b c : List Need) → AllMet s (a ++ (b ++ c)) → AllMet s c
part_last s a b c h = (met_split s b c (met_split s a (b ++ c) h).1).1

-- ---- what one frame accepted

pub frame_to_met : (s : State) (x : Frame) → KeepsAccepted s x → AllMet s (kept_of (x ∷ []))
frame_to_met s x h = (kept_is_met s (x ∷ [])).1 (h, tt)

pub met_to_frame : (s : State) (x : Frame) → AllMet s (kept_of (x ∷ [])) → KeepsAccepted s x
met_to_frame s x h = ((kept_is_met s (x ∷ [])).0 h).0

-- ---- lists of equalities

pub lists_to_met : (s : State) (es : List Listed) → AllByRecursion (λ (e : Listed). AllMet s (needs_of e.needs)) es → AllMet s (all_needs es)
lists_to_met s [] h = tt
lists_to_met s (e ∷ es) h = met_both s (needs_of e.needs) (all_needs es) h.0 (lists_to_met s es h.1)

pub met_to_lists : (s : State) (es : List Listed) → AllMet s (all_needs es) → AllByRecursion (λ (e : Listed). AllMet s (needs_of e.needs)) es
met_to_lists s [] h = tt
met_to_lists s (e ∷ es) h = let both = met_split s (needs_of e.needs) (all_needs es) h in (both.0, met_to_lists s es both.1)
