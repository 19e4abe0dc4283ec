-- What is in hand while a load goes on, and what is open beside it.
use Rattle.std.proofs.Common.{◌≡◌, ◌≢◌, ◌+◌, ◌-◌, ℕ, Bool, true, false, not, ◌||◌, ◌&&◌, if◌then◌else◌, List, [], ◌∷◌, ◌++◌, length, Option, Some, None, refl, sym, ap, subst, arith}
use Rattle.std.specs.List.{list_any}
use Rattle.std.proofs.lemmas.Bool.{eq-eqb, ne_eqb, or_parts, or_from}
use Rattle.std.proofs.lemmas.Cmp.{nat_eq_equiv, nat_list_eq_equiv}
use Rattle.cl_classfile.specs.Files.{Name}
use Rattle.cl_model.specs.Classes.{supers}
use Rattle.cl_model.specs.Frames.{Frame, asking_loader}
use Rattle.cl_model.specs.Plans.{same_ask}
use Rattle.cl_model.specs.States.{State, recorded_definer}
use Rattle.cl_model.specs.Works.{Ask}
use Rattle.cl_model.proofs.Asks.{same_asked}
use Rattle.cl_hierarchy.specs.Paths.{Pathed, at_loader}
use Rattle.cl_tasks.specs.Calls.{ask_for, ask_of, away_calls, hand_calls, in_hand, is_to_record, is_unrecorded}
use Rattle.cl_tasks.specs.Rooms.{away_hand}
use Rattle.cl_tasks.specs.Stages.{sought_ask}

-- ---- asks

-- an ask is none of these
abbrev pub IsNone : Ask → List Ask → Type 0
IsNone a asks = list_any (same_ask a) asks ≡ false

pub same_itself : (a : Ask) → same_ask a a ≡ true
same_itself a = rw (nat_eq_equiv.refl a.loader) (rw (nat_list_eq_equiv.refl a.name) refl)

pub none_here : (a b : Ask) (asks : List Ask) → IsNone a (b ∷ asks) → (same_ask a b ≡ false) × IsNone a asks
none_here a b asks h = or_parts (same_ask a b) (list_any (same_ask a) asks) h

pub none_more : (a b : Ask) (asks : List Ask) → same_ask a b ≡ false → IsNone a asks → IsNone a (b ∷ asks)
none_more a b asks h k = or_from (same_ask a b) (list_any (same_ask a) asks) h k

pub none_two : (a : Ask) (xs ys : List Ask) → IsNone a (xs ++ ys) → IsNone a xs × IsNone a ys
none_two a [] ys h = (refl, h)
none_two a (x ∷ xs) ys h =
    let k = none_here a x (xs ++ ys) h in
    let m = none_two a xs ys k.1 in
    (none_more a x xs k.0 m.0, m.1)

pub none_both : (a : Ask) (xs ys : List Ask) → IsNone a xs → IsNone a ys → IsNone a (xs ++ ys)
none_both a [] ys h k = k
none_both a (x ∷ xs) ys h k = let m = none_here a x xs h in none_more a x (xs ++ ys) m.0 (none_both a xs ys m.1 k)

-- different loaders are asked for different things
pub other_loader : (a b : Ask) → a.loader ≢ b.loader → same_ask a b ≡ false
other_loader a b h = at (same_ask a b) refl
  where
    at : (t : Bool) → same_ask a b ≡ t → t ≡ false
    at true e = absurd (h (ap (λ (x : Ask). x.loader) (same_asked a b e)))
    at false e = refl

-- ---- what is open

pub open_parts : (s : State) (absent hand : List Ask) (a : Ask) → is_to_record s absent hand a ≡ true → ((list_any (same_ask a) absent || is_unrecorded s a) ≡ true) × IsNone a hand
open_parts s absent hand a h = at (list_any (same_ask a) absent || is_unrecorded s a) (list_any (same_ask a) hand) h
  where
    at : (x y : Bool) → (x && not y) ≡ true → (x ≡ true) × (y ≡ false)
    at true true h = absurd cc
    at true false h = (refl, refl)
    at false y h = absurd cc

pub open_of : (s : State) (absent hand : List Ask) (a : Ask) → (list_any (same_ask a) absent || is_unrecorded s a) ≡ true → IsNone a hand → is_to_record s absent hand a ≡ true
open_of s absent hand a h k = rw h (rw k refl)

-- what is in hand is not open
pub hand_closed : (s : State) (absent hand : List Ask) (a : Ask) → list_any (same_ask a) hand ≡ true → is_to_record s absent hand a ≡ false
hand_closed s absent hand a h = at (list_any (same_ask a) absent || is_unrecorded s a) (list_any (same_ask a) hand) h
  where
    at : (x y : Bool) → y ≡ true → (x && not y) ≡ false
    at true true h = refl
    at true false h = absurd cc
    at false y h = refl

-- what is open is unrecorded, but where one was told to be
pub or_unrecorded : (s : State) (absent : List Ask) (a : Ask) → is_unrecorded s a ≡ true → (list_any (same_ask a) absent || is_unrecorded s a) ≡ true
or_unrecorded s absent a h = at (list_any (same_ask a) absent) (is_unrecorded s a) h
  where
    at : (x y : Bool) → y ≡ true → (x || y) ≡ true
    at true y h = refl
    at false y h = h

-- one that was told to be unrecorded is so, where it is
pub told_unrecorded : (s : State) (b a : Ask) → is_unrecorded s b ≡ true → (list_any (same_ask a) (b ∷ []) || is_unrecorded s a) ≡ true → is_unrecorded s a ≡ true
told_unrecorded s b a h k = at (same_ask a b) refl k
  where
    at : (t : Bool) → same_ask a b ≡ t → ((t || false) || is_unrecorded s a) ≡ true → is_unrecorded s a ≡ true
    at true e k = subst (λ (x : Ask). is_unrecorded s x ≡ true) (sym (same_asked a b e)) h
    at false e k = k

abbrev is_free : Option ℕ → Bool
is_free None = true
is_free (Some place) = false

pub unrecorded_at : (s : State) (l : ℕ) (n : Name) → recorded_definer s.records l n ≡ None → is_unrecorded s (ask_of n l) ≡ true
unrecorded_at s l n h = ap is_free h

-- what is recorded is none that is not
pub recorded_apart : (s : State) (a : Ask) (l place : ℕ) (n : Name) → is_unrecorded s a ≡ true → recorded_definer s.records l n ≡ Some place → same_ask a (ask_of n l) ≡ false
recorded_apart s a l place n h k = at (same_ask a (ask_of n l)) refl
  where
    none : is_unrecorded s (ask_of n l) ≡ false
    none = ap is_free k

    at : (t : Bool) → same_ask a (ask_of n l) ≡ t → t ≡ false
    at true e = absurd (let m : is_unrecorded s (ask_of n l) ≡ true = subst (λ (x : Ask). is_unrecorded s x ≡ true) (same_asked a (ask_of n l) e) h in let o = none in cc)
    at false e = refl

-- ---- frames

pub hand_last : (loader : ℕ) (xs : List Frame) (x : Frame) → in_hand loader (xs ++ x ∷ []) ≡ in_hand loader xs ++ (ask_of x.class.name (asking_loader loader xs) ∷ ask_for x.class ∷ [])
hand_last loader [] x = refl
hand_last loader (y ∷ ys) x = ap (λ (asks : List Ask). ask_of y.class.name loader ∷ ask_for y.class ∷ asks) (hand_last y.class.loader ys x)

-- the calls of one frame
abbrev pub frame_calls : ℕ → Frame → ℕ
frame_calls loader x = (1 + away_calls loader x.class.loader) + (length (supers x.file) - (length x.accepted + 1))

pub calls_last : (loader : ℕ) (xs : List Frame) (x : Frame) → hand_calls loader (xs ++ x ∷ []) ≡ hand_calls loader xs + frame_calls (asking_loader loader xs) x
calls_last loader [] x = let c = frame_calls loader x in omega arith
calls_last loader (y ∷ ys) x = let ih = calls_last y.class.loader ys x in omega arith

-- ---- the loader that is asked, and the home

pub here_none : (p : Pathed) (place : ℕ) → at_loader p ≡ place → away_hand p place ≡ []
here_none p place h = ap (λ (b : Bool). if b then [] else sought_ask p ∷ []) (eq-eqb (at_loader p) place h)

pub here_no_calls : (loader place : ℕ) → loader ≡ place → away_calls loader place ≡ 0
here_no_calls loader place h = ap (λ (b : Bool). if b then 0 else 1) (eq-eqb loader place h)

pub away_one : (p : Pathed) (place : ℕ) → (at_loader p ≡ place → ⊥) → away_hand p place ≡ sought_ask p ∷ []
away_one p place h = ap (λ (b : Bool). if b then [] else sought_ask p ∷ []) (ne_eqb (at_loader p) place h)

pub away_call : (loader place : ℕ) → (loader ≡ place → ⊥) → away_calls loader place ≡ 1
away_call loader place h = ap (λ (b : Bool). if b then 0 else 1) (ne_eqb loader place h)
