-- Who waits of a script, as a registry goes on by calls, posts and rounds.
use Rattle.std.proofs.Common.{◌≡◌, ◌⊎◌, inl, inr, ◌∙◌, ◌+◌, ◌<◌, ◌≤◌, ℕ, zero, suc, Bool, true, false, List, [], ◌∷◌, ◌++◌, length, Option, Some, None, refl, sym, ap, subst, arith, is_some}
use Rattle.std.specs.Prelude.{◌&&◌, ◌%◌, nat_eq, is_none, if◌then◌else◌, replicate, slice_get, slice_set, IsSome}
use Rattle.std.specs.List.{remove}
use Rattle.std.proofs.lemmas.List.{append-nil}
use Rattle.std.proofs.lemmas.Bool.{cases_lt}
use Rattle.std.proofs.lemmas.Bool.Decides.{nat_tests}
use Rattle.std.proofs.lemmas.Cmp.{nat_eq_equiv}
use Rattle.std.proofs.lemmas.Option.{slice_get_within}
use Rattle.cl_model.specs.declared.answer.Answer as rust
use Rattle.cl_model.specs.declared.request.Request.{Request}
use Rattle.cl_model.specs.Content.{Content}
use Rattle.cl_model.specs.States.{State, Posted, answer_to, start}
use Rattle.cl_model.specs.Machine.{Setting, Scheduled, Step, Post, NextRound, MayGoOn, after, state_after}
use Rattle.cl_model.specs.Service.{PassesRounds}
use Rattle.cl_model.specs.Views.{answer_of, answers_of, answer_at, request_of}
use Rattle.cl_model.specs.Steps.{IsOfService}
use Rattle.cl_model.proofs.Views.{state_then}
use Rattle.cl_model.proofs.Tables.{answer_found}
use Rattle.cl_model.proofs.Bind.{some_same}
use Rattle.cl_config.specs.Loaders.{schedule_of}
use Rattle.cl_config.specs.Views.{Configured, Scripted}
use Rattle.cl_registry.specs.Reports.{IsUnfinished}
use Rattle.cl_registry.specs.Tables.{Shown, IsKept, IsLater, IsOpen, IsTrusted, empty_of, round_of, state_of, steps, with_post, machine}
use Rattle.cl_registry.specs.Tables as tables
use Rattle.cl_registry.proofs.Histories.{open_answer, eq_nat, steps_posts, swap_nat, unposted}
use Rattle.cl_registry.proofs.Running.{answered}
use Rattle.cl_registry.proofs.Schedules.{some_at, schedule_round}
use Rattle.cl_registry.proofs.Calm.{post_other}
use Rattle.cl_schedule.specs.Choices.{Takes, is_waiting, taken_by, waiting_requests, waiting_from}
use Rattle.cl_schedule.specs.Rooms.{MayBeTaken}
use Rattle.cl_schedule.specs.Rounds.{RoundsPassed}
use Rattle.cl_schedule.specs.Seats.{HasGathered, MayGather}
use Rattle.cl_schedule.specs.Serving.{GoesBy}
use Rattle.cl_schedule.proofs.Next.{step_within}
use Rattle.cl_schedule.proofs.Rounds.{schedule_length, scheduled_at, within}
use Rattle.cl_schedule.proofs.States.{state_goes}

-- ---- who waits of a list

-- one number more, where a test is met
abbrev pub put : Bool → ℕ → List ℕ → List ℕ
put b q ws = if b then q ∷ ws else ws

waits_same : (s t : State) (q : ℕ) (r : Scheduled) → t.round ≡ s.round → is_none (answer_to t.answers q) ≡ is_none (answer_to s.answers q) → is_waiting t q r ≡ is_waiting s q r
waits_same s t q r round same =
    ap (λ (n : ℕ). nat_eq r.round n && is_none (answer_to t.answers q)) round ∙ ap (λ (b : Bool). nat_eq r.round s.round && b) same

-- the same wait in a state of the same round in which the same have no answer
waiting_same : (s t : State) (k : ℕ) (rs : List Scheduled) → t.round ≡ s.round → ((p : ℕ) → k ≤ p → is_none (answer_to t.answers p) ≡ is_none (answer_to s.answers p)) → waiting_from t k rs ≡ waiting_from s k rs
waiting_same s t k [] round same = refl
waiting_same s t k (r ∷ rs) round same =
    ap (λ (b : Bool). put b k (waiting_from t (suc k) rs)) (waits_same s t k r round (same k (omega arith)))
    ∙ ap (put (is_waiting s k r) k) (waiting_same s t (suc k) rs round (λ p least. same p (omega arith)))

-- a request of a list whose first has this number waits
record IsWaiting (s : State) (k : ℕ) (rs : List Scheduled) (q : ℕ) : Type 0 where
  pub place : ℕ
  pub is : q ≡ k + place
  pub request : Scheduled
  pub at : slice_get rs place ≡ Some request
  pub waits : is_waiting s q request ≡ true

-- who stands in the list of those that wait is one that waits
waiting_at : (s : State) (k : ℕ) (rs : List Scheduled) (i q : ℕ) → slice_get (waiting_from s k rs) i ≡ Some q → IsWaiting s k rs q
waiting_at s k [] i q h = absurd cc
waiting_at s k (r ∷ rs) i q h = by_test (is_waiting s k r) refl i h (waiting_at s (suc k) rs)
  where
    further : IsWaiting s (suc k) rs q → IsWaiting s k (r ∷ rs) q
    further f = record { place = suc f.place; is = let e = f.is in omega arith; request = f.request; at = f.at; waits = f.waits }

    by_test : (b : Bool) → is_waiting s k r ≡ b → (i : ℕ) → slice_get (put b k (waiting_from s (suc k) rs)) i ≡ Some q
        → ((i q : ℕ) → slice_get (waiting_from s (suc k) rs) i ≡ Some q → IsWaiting s (suc k) rs q) → IsWaiting s k (r ∷ rs) q
    by_test true e zero h rest =
        let same : k ≡ q = cc in
        record { place = 0; is = omega arith; request = r; at = refl; waits = subst (λ (n : ℕ). is_waiting s n r ≡ true) same e }
    by_test true e (suc i) h rest = further (rest i q h)
    by_test false e i h rest = further (rest i q h)

-- where nobody waits, a request of the list does not
none_waits : (s : State) (k : ℕ) (rs : List Scheduled) (p q : ℕ) (r : Scheduled) → waiting_from s k rs ≡ [] → q ≡ k + p → slice_get rs p ≡ Some r → is_waiting s q r ≡ false
none_waits s k [] p q r none is at = absurd cc
none_waits s k (e ∷ rs) zero q r none is at =
    let same : e ≡ r = some_same e r at in
    let here : k ≡ q = omega arith in
    subst (λ (n : ℕ). is_waiting s n r ≡ false) here (subst (λ (d : Scheduled). is_waiting s k d ≡ false) same (not_put (is_waiting s k e) k (waiting_from s (suc k) rs) none))
  where
    not_put : (b : Bool) (q : ℕ) (ws : List ℕ) → put b q ws ≡ [] → b ≡ false
    not_put true q ws e = absurd cc
    not_put false q ws e = refl
none_waits s k (e ∷ rs) (suc p) q r none is at = none_waits s (suc k) rs p q r (behind (is_waiting s k e) k (waiting_from s (suc k) rs) none) (omega arith) at
  where
    behind : (b : Bool) (q : ℕ) (ws : List ℕ) → put b q ws ≡ [] → ws ≡ []
    behind true q ws e = absurd cc
    behind false q ws e = e

-- ---- who waits, and who has an answer

none_of : {A : Type 0} (o : Option A) → is_none o ≡ true → o ≡ None
none_of None e = refl
none_of (Some a) e = absurd cc

pub none_some : {A : Type 0} (o : Option A) → o ≡ None → is_some o ≡ true → ⊥
none_some None n e = cc
none_some (Some a) n e = cc

open_where : (xs : List (Option rust.Answer)) (p : ℕ) → p < length xs → is_some (answer_at (answers_of xs) p) ≡ false → slice_get xs p ≡ Some None
open_where [] p l e = absurd (omega arith)
open_where (None ∷ xs) zero l e = refl
open_where (Some a ∷ xs) zero l e = absurd cc
open_where (a ∷ xs) (suc p) l e = open_where xs p (omega arith) e

-- an open request has no answer in the state
pub none_there : (x : Shown) (q : ℕ) → IsTrusted x → IsOpen x q → answer_to (state_of x).answers q ≡ None
none_there x q t is = no_answer (answer_to (state_of x).answers q) (answered x q t ∙ ap is_some (open_answer x.answers q is))
  where
    no_answer : {A : Type 0} (o : Option A) → is_some o ≡ false → o ≡ None
    no_answer None e = refl
    no_answer (Some a) e = absurd cc

-- a request that waits: it is one of the script and of the round, and is open
pub record Waits (x : Shown) (q : ℕ) : Type 0 where
  pub request : Scheduled
  pub at : slice_get (schedule_of x.script) q ≡ Some request
  pub in_round : request.round ≡ round_of x
  pub unanswered : answer_to (state_of x).answers q ≡ None
  pub is_open : IsOpen x q
  pub begun : IsLater x q → ⊥
  pub below : q < length x.script.requests

-- who stands in the list of those that wait does so
waits_there : (x : Shown) (ws : List ℕ) (i q : ℕ) → IsTrusted x → ws ≡ waiting_requests (schedule_of x.script) (state_of x) → slice_get ws i ≡ Some q → Waits x q
waits_there x ws i q t is h =
    let w = waiting_at (state_of x) 0 (schedule_of x.script) i q (subst (λ (xs : List ℕ). slice_get xs i ≡ Some q) is h) in
    let place : w.place ≡ q = let e = w.is in omega arith in
    let at : slice_get (schedule_of x.script) q ≡ Some w.request = subst (λ (n : ℕ). slice_get (schedule_of x.script) n ≡ Some w.request) place w.at in
    let tests = both (nat_eq w.request.round (round_of x)) (is_none (answer_to (state_of x).answers q)) w.waits in
    let none : answer_to (state_of x).answers q ≡ None = none_of (answer_to (state_of x).answers q) tests.1 in
    let round : w.request.round ≡ round_of x = eq_nat w.request.round (round_of x) tests.0 in
    let size = schedule_length x.script.requests x.script.rounds_of t.script.each in
    let inside = slice_get_within (schedule_of x.script) q w.request at in
    let below : q < length x.script.requests = omega arith in
    record {
      request = w.request;
      at = at;
      in_round = round;
      unanswered = none;
      is_open = open_where x.answers q (subst (λ (n : ℕ). q < n) (sym t.whole) below) (sym (answered x q t) ∙ ap is_some none);
      begun = λ late. not_later late (schedule_round x.script.requests x.script.rounds_of q w.request at) round;
      below = below;
    }
  where
    both : (a b : Bool) → (a && b) ≡ true → (a ≡ true) × (b ≡ true)
    both true b e = (refl, e)
    both false b e = absurd cc

    not_later : {n : ℕ} → (late : IsLater x q) → slice_get x.script.rounds_of q ≡ Some n → n ≡ round_of x → ⊥
    not_later {n} late at same =
        let one : late.round ≡ n = some_same late.round n (sym late.of ∙ at) in
        let after = late.later in
        omega arith

-- where nobody waits, each request of the round has its answer
all_answered : (x : Shown) → [] ≡ waiting_requests (schedule_of x.script) (state_of x) → (p : ℕ) (e : Scheduled) → slice_get (schedule_of x.script) p ≡ Some e → e.round ≡ round_of x → IsSome (answer_to (state_of x).answers p)
all_answered x none p e at same =
    some_then (nat_eq e.round (round_of x)) (answer_to (state_of x).answers p) (subst (λ (n : ℕ). nat_eq e.round n ≡ true) same (nat_eq_equiv.refl e.round))
    (none_waits (state_of x) 0 (schedule_of x.script) p p e (sym none) (omega arith) at)
  where
    some_then : {A : Type 0} (b : Bool) (o : Option A) → b ≡ true → (b && is_none o) ≡ false → is_some o ≡ true
    some_then true (Some a) e h = refl
    some_then true None e h = absurd cc
    some_then false o e h = absurd cc

-- ---- a call

later_down : (x y : Shown) (p : ℕ) → y.script ≡ x.script → round_of y ≤ round_of x → IsLater x p → IsLater y p
later_down x y p script least late = record {
  round = late.round;
  of = subst (λ (s : Scripted). slice_get s.rounds_of p ≡ Some late.round) (sym script) late.of;
  later = let after = late.later in omega arith;
}

at_most : (a b : ℕ) → a ≡ b → a ≤ b
at_most a b e = omega arith

-- what was gathered is so in a registry of the same script, round and answers
gathered_same : (x new : Shown) (ws : List ℕ) (next : ℕ) → new.script ≡ x.script → new.answers ≡ x.answers → round_of new ≡ round_of x → (state_of new).answers ≡ (state_of x).answers → HasGathered x ws next → HasGathered new ws next
gathered_same x new ws next script answers round posted h = record {
  waits =
      h.waits ∙ sym (waiting_same (state_of x) (state_of new) 0 (schedule_of x.script) round (λ p least. ap (λ (ps : List Posted). is_none (answer_to ps p)) posted))
      ∙ ap (λ (s : Scripted). waiting_requests (schedule_of s) (state_of new)) (sym script);
  front = record {
    within = subst (λ (s : Scripted). next ≤ length s.requests) (sym script) h.front.within;
    begun = λ p below late. h.front.begun p below (later_down new x p (sym script) (at_most (round_of x) (round_of new) (sym round)) late);
    open_later = λ p least below. subst (λ (xs : List (Option rust.Answer)). slice_get xs p ≡ Some None) (sym answers) (h.front.open_later p least (subst (λ (s : Scripted). p < length s.requests) script below));
  };
  later = λ p least below. later_down x new p script (at_most (round_of new) (round_of x) round) (h.later p least (subst (λ (s : Scripted). p < length s.requests) script below));
}

-- after the step of a call the same wait
pub gathered_call : (x new : Shown) (ws : List ℕ) (next : ℕ) (e : Step) → GoesBy x new e → IsOfService e → HasGathered x ws next → HasGathered new ws next
gathered_call x new ws next e goes call h =
    let there = state_goes x new e goes in
    let still = step_within (state_of x) e call in
    gathered_same x new ws next goes.script goes.answers (ap (λ (s : State). s.round) there ∙ still.0) (ap (λ (s : State). s.answers) there ∙ still.1) h

-- ---- a post

-- where one of those that wait has an answer, the others are left
waiting_post : (s t : State) (q : ℕ) → t.round ≡ s.round → ((p : ℕ) → nat_eq q p ≡ false → is_none (answer_to t.answers p) ≡ is_none (answer_to s.answers p)) → is_none (answer_to t.answers q) ≡ false
    → (k : ℕ) (rs : List Scheduled) (i : ℕ) → slice_get (waiting_from s k rs) i ≡ Some q → waiting_from t k rs ≡ remove (waiting_from s k rs) i
waiting_post s t q round same given k [] i h = absurd cc
waiting_post s t q round same given k (r ∷ rs) i h = by_test (is_waiting s k r) (is_waiting t k r) refl refl i h (waiting_post s t q round same given (suc k) rs)
  where
    apart : (a b : ℕ) → a < b → nat_eq b a ≡ false
    apart a b less = grind (arith, nat_tests)

    other : (i : ℕ) → slice_get (waiting_from s (suc k) rs) i ≡ Some q → is_waiting t k r ≡ is_waiting s k r
    other i h =
        let w = waiting_at s (suc k) rs i q h in
        waits_same s t k r round (same k (apart k q (let e = w.is in omega arith)))

    behind : k ≡ q → waiting_from t (suc k) rs ≡ waiting_from s (suc k) rs
    behind here = waiting_same s t (suc k) rs round (λ p least. same p (swap_nat q p ∙ apart q p (omega arith)))

    this : k ≡ q → is_waiting t k r ≡ false
    this here = subst (λ (n : ℕ). is_waiting t n r ≡ false) (sym here) (and_false (nat_eq r.round t.round) (is_none (answer_to t.answers q)) given)
      where
        and_false : (a b : Bool) → b ≡ false → (a && b) ≡ false
        and_false true b e = e
        and_false false b e = refl

    by_test : (b c : Bool) → is_waiting s k r ≡ b → is_waiting t k r ≡ c → (i : ℕ) → slice_get (put b k (waiting_from s (suc k) rs)) i ≡ Some q
        → ((i : ℕ) → slice_get (waiting_from s (suc k) rs) i ≡ Some q → waiting_from t (suc k) rs ≡ remove (waiting_from s (suc k) rs) i)
        → put c k (waiting_from t (suc k) rs) ≡ remove (put b k (waiting_from s (suc k) rs)) i
    by_test true c e f zero h rest =
        let here : k ≡ q = cc in
        ap (λ (d : Bool). put d k (waiting_from t (suc k) rs)) (sym f ∙ this here) ∙ behind here
    by_test true c e f (suc i) h rest =
        ap (λ (d : Bool). put d k (waiting_from t (suc k) rs)) (sym f ∙ other i h ∙ e) ∙ ap (λ (ws : List ℕ). k ∷ ws) (rest i h)
    by_test false c e f i h rest =
        ap (λ (d : Bool). put d k (waiting_from t (suc k) rs)) (sym f ∙ other i h ∙ e) ∙ rest i h

set_other : (xs : List (Option rust.Answer)) (q p : ℕ) (o v : Option rust.Answer) → q < p → slice_get xs p ≡ Some v → slice_get (slice_set xs q o) p ≡ Some v
set_other [] q p o v less at = absurd cc
set_other (x ∷ xs) q zero o v less at = absurd (omega arith)
set_other (x ∷ xs) zero (suc p) o v less at = at
set_other (x ∷ xs) (suc q) (suc p) o v less at = set_other xs q p o v (omega arith) at

-- after the post of one of those that wait the others do
pub gathered_post : (x : Shown) (ws : List ℕ) (next i q : ℕ) (a : rust.Answer) → IsTrusted x → HasGathered x ws next → slice_get ws i ≡ Some q → HasGathered (with_post x q a) (remove ws i) next
gathered_post x ws next i q a t h at =
    let w = waits_there x ws i q t h.waits at in
    let s = state_of x in
    let there : state_of (with_post x q a) ≡ after s (Post q (answer_of a)) =
    ap (state_after start) (steps_posts x q a (unposted x q t w.is_open) w.is_open) ∙ state_then start (steps x) (Post q (answer_of a) ∷ []) in
    let round : round_of (with_post x q a) ≡ round_of x = ap (λ (k : State). k.round) there in
    let left : waiting_from (after s (Post q (answer_of a))) 0 (schedule_of x.script) ≡ remove (waiting_from s 0 (schedule_of x.script)) i =
    waiting_post s (after s (Post q (answer_of a))) q refl (λ p ne. ap is_none (post_other s p q (Some (answer_of a)) ne)) (ap is_none (answer_found s.answers q (answer_of a) w.unanswered)) 0 (schedule_of x.script) i
    (subst (λ (xs : List ℕ). slice_get xs i ≡ Some q) h.waits at) in
    let before : q < next = is_before w (cases_lt q next) in
    record {
      waits = ap (λ (xs : List ℕ). remove xs i) h.waits ∙ sym left ∙ ap (waiting_requests (schedule_of x.script)) (sym there);
      front = record {
        within = h.front.within;
        begun = λ p below late. h.front.begun p below (later_down (with_post x q a) x p refl (at_most (round_of x) (round_of (with_post x q a)) (sym round)) late);
        open_later = λ p least below. set_other x.answers q p (Some a) None (omega arith) (h.front.open_later p least below);
      };
      later = λ p least below. later_down x (with_post x q a) p refl (at_most (round_of (with_post x q a)) (round_of x) round) (h.later p least below);
    }
  where
    is_before : Waits x q → (q < next) ⊎ (next ≤ q) → q < next
    is_before w (inl less) = less
    is_before w (inr least) = absurd (w.begun (h.later q least w.below))

-- ---- rounds

none_begins : (g : Setting) (s : State) (es : List Step) → PassesRounds g s es → (MayGoOn g s → ⊥) → es ≡ []
none_begins g s [] p over = refl
none_begins g s (e ∷ es) p over = absurd (over p.1)

-- while somebody waits, no round may begin
pub gathered_rounds : (told : Option Content) (x new : Shown) (ws : List ℕ) (next : ℕ) → IsKept told x → RoundsPassed x new → HasGathered x ws next → (ws ≡ [] → ⊥) → HasGathered new ws next
gathered_rounds told x new ws next k p h some =
    let one = first_of ws some in
    let w = waits_there x ws 0 one.0 k.trusted h.waits one.1 in
    let none : p.passed ≡ [] = none_begins (machine x []) (state_of x) p.passed (p.rounds []) (λ may. none_some (answer_to (state_of x).answers one.0) w.unanswered (may.answered one.0 w.request w.at w.in_round)) in
    let there : state_of new ≡ state_of x = ap (state_after start) (p.steps_more ∙ ap (λ (es : List Step). steps x ++ es) none ∙ append-nil (steps x)) in
    gathered_same x new ws next p.script p.answers (ap (λ (s : State). s.round) there) (ap (λ (s : State). s.answers) there) h
  where
    first_of : (ws : List ℕ) → (ws ≡ [] → ⊥) → (w : ℕ) × (slice_get ws 0 ≡ Some w)
    first_of [] some = absurd (some refl)
    first_of (w ∷ ws) some = (w, refl)

rounds_grow : (g : Setting) (s : State) (es : List Step) → PassesRounds g s es → s.round ≤ (state_after s es).round
rounds_grow g s [] p = omega arith
rounds_grow g s (e ∷ es) p =
    let more = rounds_grow g (after s NextRound) es p.2 in
    let whole : s.round ≤ (state_after (after s NextRound) es).round = omega arith in
    subst (λ (k : Step). s.round ≤ (state_after (after s k) es).round) (sym p.0) whole

round_grows : (x new : Shown) → RoundsPassed x new → round_of x ≤ round_of new
round_grows x new p =
    subst (λ (s : State). round_of x ≤ s.round) (sym (ap (state_after start) p.steps_more ∙ state_then start (steps x) p.passed))
    (rounds_grow (machine x []) (state_of x) p.passed (p.rounds []))

-- where nobody waits, each of those that were gathered has its answer
below_answered : (x : Shown) (next p : ℕ) → IsTrusted x → HasGathered x [] next → p < next → IsOpen x p → ⊥
below_answered x next p t h below is =
    let asked = some_at x.script.requests p (let most = h.front.within in omega arith) in
    let e = scheduled_at x.script.requests x.script.rounds_of p asked.0 t.script.each asked.1 in
    let at : slice_get x.script.rounds_of p ≡ Some e.0 = schedule_round x.script.requests x.script.rounds_of p (record { request = request_of asked.0; round = e.0 }) e.1 in
    elim (cases_lt e.0 (round_of x)) [
      | inl less ↦ none_some (answer_at (answers_of x.answers) p) (open_answer x.answers p is) (t.earlier p e.0 at less)
      | inr least ↦
          (elim (cases_lt (round_of x) e.0) [
            | inl after ↦ h.front.begun p below (record { round = e.0; of = at; later = after })
            | inr most ↦
                (let same : e.0 ≡ round_of x = omega arith in
                none_some (answer_to (state_of x).answers p) (none_there x p t is) (all_answered x h.waits p (record { request = request_of asked.0; round = e.0 }) e.1 same))
          ])
    ]

-- where nobody waits, the requests of the next round may be gathered once it began
pub may_gather : (told : Option Content) (x new : Shown) (next : ℕ) → IsKept told x → RoundsPassed x new → HasGathered x [] next → MayGather new next
may_gather told x new next k p h = record {
  front = record {
    within = subst (λ (s : Scripted). next ≤ length s.requests) (sym p.script) h.front.within;
    begun = λ q below late. h.front.begun q below (later_down new x q (sym p.script) (round_grows x new p) late);
    open_later = λ q least below. subst (λ (xs : List (Option rust.Answer)). slice_get xs q ≡ Some None) (sym p.answers) (h.front.open_later q least (subst (λ (s : Scripted). q < length s.requests) p.script below));
  };
  answered = λ q below is. below_answered x next q k.trusted h below (subst (λ (xs : List (Option rust.Answer)). slice_get xs q ≡ Some None) p.answers is);
}

none_given : (n p : ℕ) → p < n → slice_get (replicate n (let o : Option rust.Answer = None in o)) p ≡ Some None
none_given zero p below = absurd (omega arith)
none_given (suc n) zero below = refl
none_given (suc n) (suc p) below = none_given n p (omega arith)

-- those of the first round may be gathered once the empty registry has passed the rounds that may begin
pub may_gather_first : (config : Configured) (script : Scripted) (empty new : Shown) → empty ≡ empty_of config script → RoundsPassed empty new → MayGather new 0
may_gather_first config script empty new is p =
    let same : new.script ≡ script = p.script ∙ ap (λ (x : Shown). x.script) is in
    let none : new.answers ≡ replicate (length script.requests) None = p.answers ∙ ap (λ (x : Shown). x.answers) is in
    record {
      front = record {
        within = omega arith;
        begun = λ q below late. absurd (omega arith);
        open_later = λ q least below.
            subst (λ (xs : List (Option rust.Answer)). slice_get xs q ≡ Some None) (sym none)
            (none_given (length script.requests) q (subst (λ (s : Scripted). q < length s.requests) same below));
      };
      answered = λ q below is. absurd (omega arith);
    }

-- where nobody waits, and no further round may begin, nothing is left
pub none_left : (told : Option Content) (x : Shown) (next : ℕ) → IsKept told x → HasGathered x [] next → (tables.RoundMayBegin x → ⊥) → IsUnfinished x → ⊥
none_left told x next k h over (inr later) = over (record { answered = all_answered x h.waits; later = later })
none_left told x next k h over (inl one) =
    let q = one.0 in
    let below : q < length x.script.requests = subst (λ (n : ℕ). q < n) k.trusted.whole (slice_get_within x.answers q None one.1) in
    elim (cases_lt q next) [
      | inl before ↦ below_answered x next q k.trusted h before one.1
      | inr least ↦ over (record { answered = all_answered x h.waits; later = a_later (h.later q least below) })
    ]
  where
    a_later : IsLater x one.0 → round_of x + 1 < x.script.rounds
    a_later late = let most = within x.script.rounds x.script.rounds_of one.0 late.round k.trusted.script.within late.of in let after = late.later in omega arith

-- ---- one of those that wait

-- who waits may be served: it is a request of the script, open, and of no later round
pub waiting_is : (told : Option Content) (x : Shown) (ws : List ℕ) (next i q : ℕ) → IsKept told x → HasGathered x ws next → slice_get ws i ≡ Some q → MayBeTaken x q
waiting_is told x ws next i q k h at =
    let w = waits_there x ws i q k.trusted h.waits at in
    let r = some_at x.script.requests q w.below in
    (r.0, record { asked = r.1; begun = w.begun; unanswered = w.is_open })

-- whom a choice takes of those that were gathered
pub taken_is : (x : Shown) (ws : List ℕ) (next choice q : ℕ) → HasGathered x ws next → slice_get ws (choice % length ws) ≡ Some q → taken_by (schedule_of x.script) (state_of x) choice ≡ Some q
taken_is x ws next choice q h at = subst (λ (xs : List ℕ). slice_get xs (choice % length xs) ≡ Some q) h.waits at

pub taken_none : (x : Shown) (ws : List ℕ) (next choice : ℕ) → HasGathered x ws next → ws ≡ [] → taken_by (schedule_of x.script) (state_of x) choice ≡ None
taken_none x ws next choice h none = ap (λ (xs : List ℕ). slice_get xs (choice % length xs)) (sym h.waits ∙ none)

-- the request that a choice takes of those that were gathered is the one that it takes in the machine's words
pub takes_waiting : (told : Option Content) (content : Content) (x : Shown) (ws : List ℕ) (next choice q : ℕ) (r : Request) → IsKept told x → HasGathered x ws next → slice_get ws (choice % length ws) ≡ Some q → slice_get x.script.requests q ≡ Some r
    → (e : Scheduled) × (e.request ≡ request_of r) × Takes (machine x content) (state_of x) choice q e
takes_waiting told content x ws next choice q r k h at asked =
    let e = scheduled_at x.script.requests x.script.rounds_of q r k.trusted.script.each asked in
    (record { request = request_of r; round = e.0 }, refl, record { waits = taken_is x ws next choice q h at; asked = e.1 })
