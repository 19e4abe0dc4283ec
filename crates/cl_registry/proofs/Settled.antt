-- What a history tells to be settled is what the linkage machine has.
use Rattle.std.proofs.Common.{◌≡◌, ◌∙◌, ℕ, Bool, true, false, List, [], ◌∷◌, ◌++◌, map, Option, Some, None, refl, sym, ap, subst, if◌then◌else◌}
use Rattle.std.specs.Prelude.{◌&&◌, ◌==◌, nat_eq, find, option_map}
use Rattle.std.specs.Option.{option_or}
use Rattle.std.proofs.lemmas.List.{append-nil, append_assoc}
use Rattle.std.proofs.lemmas.List.Folds.{find-append}
use Rattle.cl_model.specs.declared.class.Class.{Class}
use Rattle.cl_model.specs.declared.event.Event.{Event}
use Rattle.cl_model.specs.declared.event.Event.TheVariants as events
use Rattle.cl_model.specs.declared.settled.Settled.{Settled}
use Rattle.cl_model.specs.Classes.{same_class}
use Rattle.cl_model.specs.States.{State, start, Answer, Verdict, settled_to}
use Rattle.cl_model.specs.States as states
use Rattle.cl_model.specs.Machine.{Define, Initiate, NextRound, after, state_after}
use Rattle.cl_model.specs.Views.{answers_of, answer_at, post_of, step_of, steps_of, verdict_of}
use Rattle.cl_model.proofs.Complete.{is_class}
use Rattle.cl_registry.specs.Tables.{Shown, state_of, settlements, settled_at}
use Rattle.cl_registry.specs.SettlingLaws.{SettledIsTold, UnsettledIsTold, SettledStays}
use Rattle.cl_registry.proofs.Histories.{eq_nat, settlements_then}
use Rattle.std.proofs.lemmas.Bool.{and_parts}
use Rattle.cl_registry.proofs.Calm.{or_nothing}

-- ---- as the machine has it

-- what is settled, as the machine has it
abbrev told_of : Settled → states.Settled
told_of s = record { class = s.class; index = s.index; verdict = verdict_of s.verdict }

post_settles : (s : State) (q : ℕ) (o : Option Answer) → (after s (post_of q o)).settled ≡ s.settled
post_settles s q None = refl
post_settles s q (Some a) = refl

settled_after : (now : List (Option Answer)) (h : List Event) (s : State) → (state_after s (steps_of now h)).settled ≡ s.settled ++ map told_of (settlements h)
settled_after now [] s = sym (append-nil s.settled)
settled_after now (events.Define c ∷ h) s = settled_after now h (after s (Define c))
settled_after now (events.Initiate c l ∷ h) s = settled_after now h (after s (Initiate c.name c.loader l))
settled_after now (events.Constrain e ∷ h) s = settled_after now h (after s (step_of now (events.Constrain e)))
settled_after now (events.Settle r ∷ h) s = settled_after now h (after s (step_of now (events.Settle r))) ∙ append_assoc s.settled (told_of r.value ∷ []) (map told_of (settlements h))
settled_after now (events.Prepare c ∷ h) s = settled_after now h (after s (step_of now (events.Prepare c)))
settled_after now (events.NextRound ∷ h) s = settled_after now h (after s NextRound)
settled_after now (events.Post q ∷ h) s =
    settled_after now h (after s (post_of q (answer_at now q))) ∙ ap (λ (rs : List states.Settled). rs ++ map told_of (settlements h)) (post_settles s q (answer_at now q))

-- an entry that is looked for
abbrev is_it : Class → ℕ → Settled → Bool
is_it c index s = same_class s.class c && (s.index == index)

told_find : (xs : List Settled) (c : Class) (index : ℕ) → settled_to (map told_of xs) c index ≡ option_map (λ (s : Settled). verdict_of s.verdict) (find (is_it c index) xs)
told_find [] c index = refl
told_find (x ∷ xs) c index = at (is_it c index x) (told_find xs c index)
  where
    verdict : Option states.Settled → Option Verdict
    verdict o = option_map (λ (r : states.Settled). r.verdict) o

    at : (b : Bool) → settled_to (map told_of xs) c index ≡ option_map (λ (s : Settled). verdict_of s.verdict) (find (is_it c index) xs)
        → verdict (if b then Some (told_of x) else find (λ (r : states.Settled). same_class r.class c && (r.index == index)) (map told_of xs)) ≡ option_map (λ (s : Settled). verdict_of s.verdict) (if b then Some x else find (is_it c index) xs)
    at true ih = refl
    at false ih = ih

-- what a reference is settled to in the state, by the history
pub settled_is : (x : Shown) (c : Class) (index : ℕ) → settled_to (state_of x).settled c index ≡ option_map (λ (s : Settled). verdict_of s.verdict) (settled_at x c index)
settled_is x c index = ap (λ (rs : List states.Settled). settled_to rs c index) (settled_after (answers_of x.answers) x.history start) ∙ told_find (settlements x.history) c index

-- ---- what is found is what was looked for

found_is : (xs : List Settled) (c : Class) (index : ℕ) (s : Settled) → find (is_it c index) xs ≡ Some s → is_it c index s ≡ true
found_is [] c index s e = absurd cc
found_is (x ∷ xs) c index s e = at (is_it c index x) refl e (found_is xs c index s)
  where
    at : (b : Bool) → is_it c index x ≡ b → (if b then Some x else find (is_it c index) xs) ≡ Some s → (find (is_it c index) xs ≡ Some s → is_it c index s ≡ true) → is_it c index s ≡ true
    at true t h ih = let same : x ≡ s = cc in subst (λ (y : Settled). is_it c index y ≡ true) same t
    at false t h ih = ih h

pub settled_is_told : SettledIsTold
settled_is_told x c index s e =
    let tests = and_parts (same_class s.class c) (nat_eq s.index index) (found_is (settlements x.history) c index s e) in
    record {
      class = is_class s.class c tests.0;
      index = eq_nat s.index index tests.1;
      entry = e;
      verdict = settled_is x c index ∙ ap (λ (o : Option Settled). option_map (λ (s : Settled). verdict_of s.verdict) o) e;
    }

pub unsettled_is_told : UnsettledIsTold
unsettled_is_told x c index e =
    record { entry = e; verdict = settled_is x c index ∙ ap (λ (o : Option Settled). option_map (λ (s : Settled). verdict_of s.verdict) o) e }

pub settled_stays : SettledStays
settled_stays x y es c index s more e =
    ap (λ (h : List Event). find (is_it c index) (settlements h)) more
    ∙ ap (find (is_it c index)) (settlements_then x.history es)
    ∙ find-append (is_it c index) (settlements x.history) (settlements es)
    ∙ ap (λ (o : Option Settled). option_or o (find (is_it c index) (settlements es))) e

-- ---- one entry more

-- what is settled after an entry that was not is settled
pub settled_more : (x y : Shown) (e : Event) (s : Settled) (c : Class) (index : ℕ) → y.history ≡ x.history ++ e ∷ [] → settlements (e ∷ []) ≡ s ∷ [] → settled_at x s.class s.index ≡ None
    → settled_at y c index ≡ (if is_it c index s then Some s else settled_at x c index)
settled_more x y e s c index more one free =
    ap (λ (h : List Event). find (is_it c index) (settlements h)) more
    ∙ ap (find (is_it c index)) (settlements_then x.history (e ∷ []) ∙ ap (λ (rs : List Settled). settlements x.history ++ rs) one)
    ∙ find-append (is_it c index) (settlements x.history) (s ∷ [])
    ∙ at (is_it c index s) refl
  where
    at : (b : Bool) → is_it c index s ≡ b → option_or (settled_at x c index) (if b then Some s else None) ≡ (if b then Some s else settled_at x c index)
    at true t =
        let tests = and_parts (same_class s.class c) (nat_eq s.index index) t in
        ap (λ (o : Option Settled). option_or o (Some s)) (ap (λ (d : Class). settled_at x d index) (sym (is_class s.class c tests.0)) ∙ ap (settled_at x s.class) (sym (eq_nat s.index index tests.1)) ∙ free)
    at false t = or_nothing (settled_at x c index)
