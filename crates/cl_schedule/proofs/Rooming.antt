-- Requests in their places: what a choice does to them and to the history (JVMS SE 8, 5.3 to 5.4.3).
use Rattle.std.proofs.Common.{◌≡◌, inl, inr, ◌∙◌, ◌+◌, ◌*◌, ◌%◌, ◌<◌, ◌≤◌, ℕ, zero, suc, List, [], ◌∷◌, ◌++◌, length, Option, Some, None, refl, sym, ap, subst, arith, add-one, append_assoc}
use Rattle.std.specs.Prelude.{Result, Ok, Err, IfOk, replicate, slice_get, slice_index, MatchOption}
use Rattle.std.specs.List.{remove}
use native.Mathlib.Nat.{mod-lt, suc-mul, zero-mod}
use Rattle.std.proofs.lemmas.List.{append-nil, length-replicate}
use Rattle.std.proofs.lemmas.List.Edits.{length-remove}
use Rattle.std.proofs.lemmas.Option.{slice_get_within}
use Rattle.cl_config.specs.Scripts.{HasLoaders}
use Rattle.cl_config.specs.Views.{Configured, Scripted}
use Rattle.cl_model.specs.declared.answer.Answer as rust
use Rattle.cl_model.specs.declared.request.Request.{Request}
use Rattle.cl_model.specs.Content.{Content}
use Rattle.cl_model.specs.Machine.{Setting, Step, Post, state_after}
use Rattle.cl_model.specs.Service.{IsNextStep, MayEnd, PassesRounds}
use Rattle.cl_model.specs.States.{State, start}
use Rattle.cl_model.specs.Plans as plans
use Rattle.cl_model.specs.Views.{answer_of}
use Rattle.cl_model.specs.Steps.{IsOfService}
use Rattle.cl_model.proofs.Views.{state_then}
use Rattle.cl_model.proofs.Bind.{some_same}
use Rattle.cl_registry.specs.Tables.{Shown, IsKept, IsOpen, empty_of, state_of, steps, with_post, machine}
use Rattle.cl_registry.specs.Tables as tables
use Rattle.cl_registry.proofs.Histories.{steps_posts, unposted}
use Rattle.cl_registry.proofs.Schedules.{some_at}
use Rattle.cl_tasks.specs.Measures.{all_left}
use Rattle.cl_tasks.specs.Tasks.{Tasked}
use Rattle.cl_tasks.specs.declared.turn.Turn.{Turn}
use Rattle.cl_tasks.specs.Blames.{TurnBlames}
use Rattle.cl_schedule.specs.declared.choices.Room.{Room}
use Rattle.cl_schedule.specs.declared.seats.Seat.{Seat}
use Rattle.cl_schedule.specs.Blames.{EachBlames, IsAskedFor}
use Rattle.cl_schedule.specs.Places.{seat_at}
use Rattle.cl_schedule.specs.Replies.{Did}
use Rattle.cl_schedule.specs.Rooms.{AllSeated, ChoosesIn, FirstFalls, HasTaken, IsRoom, IsServing, OpenSeats, PlaysIn, TakesFirst, WaitsAgain, first_left, left_of_request, left_of, room_sum}
use Rattle.cl_schedule.specs.Rounds.{RoundsPassed}
use Rattle.cl_schedule.specs.Seats.{AreOfRound, GoesOn, HasAdvanced, HasGathered, HasPosted, IsSeated, IsSeatedAt, NextIn}
use Rattle.cl_schedule.proofs.Blaming.{each_blames_more, each_blames_none, each_blames_passed, each_blames_still}
use Rattle.cl_schedule.proofs.Later.{after_then, goes_on_did, goes_on_posted, goes_on_rounds}
use Rattle.cl_schedule.proofs.Gathering.{gathered}
use Rattle.cl_schedule.proofs.Places.{HasMoved, none_seated, other_set, same_or_apart, same_seats, same_set, seat_task, some_none}
use Rattle.cl_schedule.proofs.States.{same_machine}
use Rattle.cl_schedule.proofs.Waiting.{gathered_call, gathered_post, gathered_rounds, may_gather, may_gather_first, takes_waiting}

-- ---- cases

match_some : {A : Type 0} (o : Option A) (a : A) (P : Type 0) (Q : A → Type 0) → o ≡ Some a → MatchOption o P Q → Q a
match_some {A = A} o a P Q e m = subst (λ (k : Option A). MatchOption k P Q) e m

pub map_ok : {A E : Type 0} (r : Result A E) (P Q : A → Type 0) → ((a : A) → P a → Q a) → IfOk r P → IfOk r Q
map_ok (Ok a) P Q map is = map a is
map_ok (Err e) P Q map is = is

-- ---- seats later on

pub seated_later : {A : Type 0} (told : Option Content) (x y : Shown) (t : Tasked) (u : Turn A) (q : ℕ) (r : Request) → GoesOn x y → IsSeated told x t u q r → IsSeated told y t u q r
seated_later told x y t u q r goes s = record {
  config = s.config ∙ sym goes.config;
  asks = s.asks;
  for_request = s.for_request;
  few = s.few;
  unread = s.unread;
  more = s.more;
  holds = λ z after. s.holds z (after_then told x y z goes after);
  backed = λ z after. s.backed z (after_then told x y z goes after);
  follows = λ z after. s.follows z (after_then told x y z goes after);
  posts = λ z after. s.posts z (after_then told x y z goes after);
  blames = subst (λ (c : Configured). TurnBlames c (IsAskedFor told c r) u) (sym goes.config) s.blames;
}

-- ---- a turn, in the registry

-- what is posted, in the history
pub steps_posted : (told : Option Content) (old new : Shown) (q : ℕ) → IsKept told old → (posted : HasPosted told old new q) → steps new ≡ steps old ++ Post q (answer_of posted.answer) ∷ []
steps_posted told old new q kept posted = ap steps posted.posted ∙ steps_posts old q posted.answer (unposted old q kept.trusted posted.unanswered) posted.unanswered

-- the request that was taken
pub asked_turned : {A : Type 0} (told : Option Content) (old new : Shown) (q left : ℕ) (after : Option (Seat A)) → MatchOption after (HasPosted told old new q) (WaitsAgain told old new q left) → (r : Request) × (slice_get old.script.requests q ≡ Some r)
asked_turned told old new q left None posted = (posted.request, posted.asked)
asked_turned told old new q left (Some s) waits = (waits.advanced.request, waits.advanced.asked)

pub goes_turned : {A : Type 0} (told : Option Content) (old new : Shown) (q left : ℕ) (after : Option (Seat A)) → IsKept told old → MatchOption after (HasPosted told old new q) (WaitsAgain told old new q left) → GoesOn old new
goes_turned told old new q left None kept posted = subst (GoesOn old) (sym posted.posted) (goes_on_posted old q posted.answer kept.trusted posted.unanswered)
goes_turned told old new q left (Some s) kept waits = goes_on_did old new (λ e. IsOfService e × NextIn told old waits.advanced.request e) waits.advanced.did

pub same_answers : (old new : Shown) (such : Step → Type 0) → Did old new such → new.answers ≡ old.answers
same_answers old new such (inl same) = ap (λ (x : Shown). x.answers) same
same_answers old new such (inr (e, is, goes)) = goes.answers

same_advanced : (told : Option Content) (old new : Shown) (q : ℕ) → HasAdvanced told old new q → new.answers ≡ old.answers
same_advanced told old new q advanced = same_answers old new (λ e. IsOfService e × NextIn told old advanced.request e) advanced.did

-- who has no answer behind a turn had none before
pub opens_turned : {A : Type 0} (told : Option Content) (old new : Shown) (q left : ℕ) (after : Option (Seat A)) → MatchOption after (HasPosted told old new q) (WaitsAgain told old new q left) → (p : ℕ) → IsOpen new p → IsOpen old p
opens_turned told old new q left None posted p is_open = elim (same_or_apart p q) [
  | inl same ↦ subst (IsOpen old) (sym same) posted.unanswered
  | inr apart ↦ sym (other_set old.answers q p (Some posted.answer) apart) ∙ ap (λ (y : Shown). slice_get y.answers p) (sym posted.posted) ∙ is_open
]
opens_turned told old new q left (Some s) waits p is_open = ap (λ (xs : List (Option rust.Answer)). slice_get xs p) (sym (same_advanced told old new q waits.advanced)) ∙ is_open

-- and another one has none still
open_turned : {A : Type 0} (told : Option Content) (old new : Shown) (q left : ℕ) (after : Option (Seat A)) → MatchOption after (HasPosted told old new q) (WaitsAgain told old new q left) → (p : ℕ) → (p ≡ q → ⊥) → IsOpen old p → IsOpen new p
open_turned told old new q left None posted p apart is_open = ap (λ (y : Shown). slice_get y.answers p) posted.posted ∙ other_set old.answers q p (Some posted.answer) apart ∙ is_open
open_turned told old new q left (Some s) waits p apart is_open = ap (λ (xs : List (Option rust.Answer)). slice_get xs p) (same_advanced told old new q waits.advanced) ∙ is_open

pub not_open : (old new : Shown) (q : ℕ) (a : rust.Answer) → IsOpen old q → new ≡ with_post old q a → IsOpen new q → ⊥
not_open old new q a here is is_open = apart (sym (same_set old.answers q (Some a) (slice_get_within old.answers q None here)) ∙ ap (λ (y : Shown). slice_get y.answers q) (sym is) ∙ is_open)
  where
    apart : Some (Some a) ≡ Some None → ⊥
    apart e = cc

-- ---- a choice, in the history

pub chosen_posted : (told : Option Content) (old new : Shown) (ws : List ℕ) (next choice q : ℕ) → IsKept told old → HasGathered old ws next → slice_get ws (choice % length ws) ≡ Some q → HasPosted told old new q → ChoosesIn told old new choice
chosen_posted None old new ws next choice q kept gathered at posted = tt
chosen_posted (Some content) old new ws next choice q kept gathered at posted =
    let g : Setting = machine old content in
    let takes = takes_waiting (Some content) content old ws next choice q posted.request kept gathered at posted.asked in (
      Post q (answer_of posted.answer) ∷ [],
      steps_posted (Some content) old new q kept posted,
      (
        q,
        takes.0,
        takes.2,
        inr (
          answer_of posted.answer,
          subst (λ (r : plans.Request). MayEnd g (state_of old) r (answer_of posted.answer)) (sym takes.1) (posted.ends content refl),
          refl,
        ),
      ),
    )

pub chosen_advanced : (told : Option Content) (old new : Shown) (ws : List ℕ) (next choice q : ℕ) → IsKept told old → HasGathered old ws next → slice_get ws (choice % length ws) ≡ Some q → HasAdvanced told old new q → ChoosesIn told old new choice
chosen_advanced None old new ws next choice q kept gathered at advanced = tt
chosen_advanced (Some content) old new ws next choice q kept gathered at advanced = by_did advanced.did
  where
    by_did : Did old new (λ e. IsOfService e × NextIn (Some content) old advanced.request e) → ChoosesIn (Some content) old new choice
    by_did (inl same) = ([], ap steps same ∙ sym (append-nil (steps old)), tt)
    by_did (inr (e, (call, next_in), goes)) =
        let g : Setting = machine old content in
        let takes = takes_waiting (Some content) content old ws next choice q advanced.request kept gathered at advanced.asked in (
          e ∷ [],
          goes.step,
          (q, takes.0, takes.2, inl (subst (λ (r : plans.Request). IsNextStep g (state_of old) r e) (sym takes.1) (next_in content refl))),
        )

pub chosen_none : (told : Option Content) (x : Shown) (choice : ℕ) → ChoosesIn told x x choice
chosen_none None x choice = tt
chosen_none (Some content) x choice = ([], sym (append-nil (steps x)), tt)

-- ---- the room after a choice

seated_here : {A : Type 0} (told : Option Content) (old new : Shown) (q left : ℕ) (after : Option (Seat A)) (s : Seat A) → MatchOption after (HasPosted told old new q) (WaitsAgain told old new q left) → after ≡ Some s → IsSeatedAt told new s.task s.call q
seated_here {A = A} told old new q left after s did is = (match_some after s (HasPosted told old new q) (WaitsAgain told old new q left) is did).seated

all_seated : {A : Type 0} (told : Option Content) (old new : Shown) (room done : Room A) (q left : ℕ) (after : Option (Seat A)) → GoesOn old new → AllSeated told old room → MatchOption after (HasPosted told old new q) (WaitsAgain told old new q left) → HasMoved room done q after → AllSeated told new done
all_seated {A = A} told old new room done q left after goes all did moved = λ p s r at asked. elim (same_or_apart p q) [
  | inl same ↦ subst (λ (i : ℕ). seat_at done i ≡ Some s → slice_get new.script.requests i ≡ Some r → IsSeated told new s.task s.call i r) (sym same) (here s r) at asked
  | inr apart ↦ seated_later told old new s.task s.call p r goes (all p s r (sym (moved.others p apart) ∙ at) (ap (λ (y : Scripted). slice_get y.requests p) (sym goes.script) ∙ asked))
]
  where
    here : (s : Seat A) (r : Request) → seat_at done q ≡ Some s → slice_get new.script.requests q ≡ Some r → IsSeated told new s.task s.call q r
    here s r at asked =
        let seated = seated_here told old new q left after s did (sym moved.here ∙ at) in
        subst (λ (m : Request). IsSeated told new s.task s.call q m) (some_same seated.0 r (sym seated.1.asked ∙ asked)) seated.2

all_open : {A : Type 0} (told : Option Content) (old new : Shown) (room done : Room A) (q left : ℕ) (after : Option (Seat A)) → OpenSeats old room → MatchOption after (HasPosted told old new q) (WaitsAgain told old new q left) → HasMoved room done q after → OpenSeats new done
all_open {A = A} told old new room done q left after seats did moved = λ p s at. elim (same_or_apart p q) [
  | inl same ↦ subst (IsOpen new) (sym same) (seated_here told old new q left after s did (sym moved.here ∙ ap (seat_at done) (sym same) ∙ at)).1.unanswered
  | inr apart ↦ open_turned told old new q left after did p apart (seats p s (sym (moved.others p apart) ∙ at))
]

-- a request was answered: it waits no more
pub gathered_posted : {A : Type 0} (told : Option Content) (old new : Shown) (room mid done : Room A) (q i : ℕ) → IsKept told old → HasGathered old room.waiting.items room.next → HasTaken room mid q → HasPosted told old new q → slice_get room.waiting.items i ≡ Some q
    → done.waiting.items ≡ remove mid.waiting.items i → done.next ≡ mid.next → HasGathered new done.waiting.items done.next
gathered_posted told old new room mid done q i kept h taken posted at waiting next =
    subst (λ (k : ℕ). HasGathered new done.waiting.items k) (sym (next ∙ taken.next))
    (subst (λ (xs : List ℕ). HasGathered new xs room.next) (sym (waiting ∙ ap (λ (xs : List ℕ). remove xs i) taken.waiting))
    (subst (λ (y : Shown). HasGathered y (remove room.waiting.items i) room.next) (sym posted.posted)
    (gathered_post old room.waiting.items room.next i q posted.answer kept.trusted h at)))

gathered_did : (old new : Shown) (such : Step → Type 0) (ws : List ℕ) (next : ℕ) → ((e : Step) → such e → IsOfService e) → Did old new such → HasGathered old ws next → HasGathered new ws next
gathered_did old new such ws next calls (inl same) gathered = subst (λ (y : Shown). HasGathered y ws next) (sym same) gathered
gathered_did old new such ws next calls (inr (e, is, goes)) gathered = gathered_call old new ws next e goes (calls e is) gathered

-- a request went on: it waits still
pub gathered_advanced : {A : Type 0} (told : Option Content) (old new : Shown) (room mid done : Room A) (q : ℕ) → HasGathered old room.waiting.items room.next → HasTaken room mid q → HasAdvanced told old new q
    → done.waiting.items ≡ mid.waiting.items → done.next ≡ mid.next → HasGathered new done.waiting.items done.next
gathered_advanced told old new room mid done q h taken advanced waiting next =
    subst (λ (k : ℕ). HasGathered new done.waiting.items k) (sym (next ∙ taken.next))
    (subst (λ (xs : List ℕ). HasGathered new xs room.next) (sym (waiting ∙ taken.waiting))
    (gathered_did old new (λ e. IsOfService e × NextIn told old advanced.request e) room.waiting.items room.next (λ e is. is.0) advanced.did h))

-- what was answered blames so behind a turn
each_blames_turned : {A : Type 0} (told : Option Content) (old new : Shown) (q left : ℕ) (after : Option (Seat A)) → GoesOn old new → MatchOption after (HasPosted told old new q) (WaitsAgain told old new q left) → EachBlames told old → EachBlames told new
each_blames_turned told old new q left None goes posted all =
    each_blames_more told old new q posted.request posted.answer goes.config goes.script (ap (λ (x : Shown). x.answers) posted.posted) posted.unanswered posted.asked posted.blames all
each_blames_turned told old new q left (Some s) goes waits all = each_blames_still told old new goes.config goes.script (same_advanced told old new q waits.advanced) all

-- what is served goes on to be, whether the request that was taken went on or was answered
pub serves_turned : {A : Type 0} (told : Option Content) (config : Configured) (script : Scripted) (old new : Shown) (room done : Room A) (q left : ℕ) (after : Option (Seat A)) → IsServing told config script old room → IsKept told new
    → MatchOption after (HasPosted told old new q) (WaitsAgain told old new q left) → HasMoved room done q after → HasGathered new done.waiting.items done.next → IsServing told config script new done
serves_turned told config script old new room done q left after serves kept did moved gathered_now =
    let goes = goes_turned told old new q left after serves.kept did in
    let count : length new.script.requests ≡ length old.script.requests = ap (λ (s : Scripted). length s.requests) goes.script in
    record {
      configured = goes.config ∙ serves.configured;
      scripted = goes.script ∙ serves.scripted;
      loaders = serves.loaders;
      kept = kept;
      places = record {
        tasks_whole = moved.tasks_whole ∙ serves.places.tasks_whole ∙ sym count;
        calls_whole = moved.calls_whole ∙ serves.places.calls_whole ∙ sym count;
        seated = all_seated told old new room done q left after goes serves.places.seated did moved;
        gathered = gathered_now;
      };
      seats = all_open told old new room done q left after serves.seats did moved;
      blames = each_blames_turned told old new q left after goes did serves.blames;
    }

-- ---- the first request, taken again and again

-- a request went on: fewer turns are left of it
pub first_advanced : {A : Type 0} (room mid done : Room A) (q i : ℕ) (s : Seat A) → HasTaken room mid q → HasMoved room done q (Some s) → i ≡ 0 → slice_get room.waiting.items i ≡ Some q → s.task.left < left_of_request room q
    → done.waiting.items ≡ mid.waiting.items → done.next ≡ mid.next
    → (room_sum done ≡ room_sum room) × (done.waiting.items ≡ room.waiting.items) × (first_left done done.waiting.items < first_left room room.waiting.items)
first_advanced {A = A} room mid done q i s taken moved zero_is at less waiting next =
    let ws = waiting ∙ taken.waiting in (
      sum_same moved.tasks_whole (ap length ws) (next ∙ taken.next),
      ws,
      subst (λ (xs : List ℕ). first_left done xs < first_left room room.waiting.items) (sym ws) (by_first room.waiting.items (subst (λ (n : ℕ). slice_get room.waiting.items n ≡ Some q) zero_is at) (ap left_of moved.here)),
    )
  where
    sum_same : length done.tasks.items ≡ length room.tasks.items → length done.waiting.items ≡ length room.waiting.items → done.next ≡ room.next → room_sum done ≡ room_sum room
    sum_same a b c = omega (arith, a, b, c)

    by_first : (ws : List ℕ) → slice_get ws 0 ≡ Some q → left_of_request done q ≡ s.task.left → first_left done ws < first_left room ws
    by_first [] at now = absurd cc
    by_first (p ∷ ws) at now = subst (λ (n : ℕ). left_of_request done n < left_of_request room n) (sym (some_same p q at)) (subst (λ (n : ℕ). n < left_of_request room q) (sym now) less)

-- a request was answered: fewer have none
pub first_answered : {A : Type 0} (room mid done : Room A) (q i : ℕ) → HasTaken room mid q → HasMoved room done q None → i < length room.waiting.items → done.waiting.items ≡ remove mid.waiting.items i → done.next ≡ mid.next → room_sum done + 1 ≡ room_sum room
first_answered room mid done q i taken moved within waiting next = by_lengths moved.tasks_whole (ap length (waiting ∙ ap (λ (xs : List ℕ). remove xs i) taken.waiting)) (length-remove room.waiting.items i within) (next ∙ taken.next)
  where
    by_lengths : length done.tasks.items ≡ length room.tasks.items → length done.waiting.items ≡ length (remove room.waiting.items i) → length (remove room.waiting.items i) + 1 ≡ length room.waiting.items → done.next ≡ room.next → room_sum done + 1 ≡ room_sum room
    by_lengths a b c d = omega (arith, a, b, c, d)

-- ---- where a choice falls

-- the number at a place of those that wait
pub waits_at : (ws : List ℕ) (n choice q : ℕ) → n ≡ length ws → (n ≡ 0 → ⊥) → q ≡ slice_index ws (choice % n) → slice_get ws (choice % length ws) ≡ Some q
waits_at ws n choice q count some is =
    subst (λ (m : ℕ). slice_get ws (choice % m) ≡ Some q) count
    (index_at ws (choice % n) (subst (λ (m : ℕ). choice % n < m) count (mod-lt choice (positive n some))) ∙ ap (λ (k : ℕ). Some k) (sym is))
  where
    positive : (n : ℕ) → (n ≡ 0 → ⊥) → 0 < n
    positive zero some = absurd (some refl)
    positive (suc n) some = omega arith

    index_at : (xs : List ℕ) (i : ℕ) → i < length xs → slice_get xs i ≡ Some (slice_index xs i)
    index_at [] i below = absurd (omega arith)
    index_at (x ∷ xs) zero below = refl
    index_at (x ∷ xs) (suc i) below = index_at xs i (omega arith)

-- a choice of 0 takes the first
pub first_place : (n choice : ℕ) → choice ≡ 0 → choice % n ≡ 0
first_place n choice is = ap (λ (k : ℕ). k % n) is ∙ zero-mod n

-- ---- the rounds behind a choice

pub plays_in : (told : Option Content) (old mid new : Shown) (choice : ℕ) → mid.config ≡ old.config → mid.script ≡ old.script → ChoosesIn told old mid choice → RoundsPassed mid new → PlaysIn told old new choice
plays_in None old mid new choice config script chosen passed = tt
plays_in (Some content) old mid new choice config script (one, whole, chosen) passed =
    let there : state_of mid ≡ state_after (state_of old) one = ap (state_after start) whole ∙ state_then start (steps old) one in (
      one,
      passed.passed,
      passed.steps_more ∙ ap (λ (es : List Step). es ++ passed.passed) whole ∙ append_assoc (steps old) one passed.passed,
      chosen,
      subst (λ (s : State). PassesRounds (machine old content) s passed.passed) there
          (subst (λ (g : Setting). PassesRounds g (state_of mid) passed.passed) (same_machine old mid content config script) (passed.rounds content)),
    )

-- what is served goes on to be, with these gathered
serves_rounds : {A : Type 0} (told : Option Content) (config : Configured) (script : Scripted) (old new : Shown) (room done : Room A) → IsServing told config script old room → IsKept told new → RoundsPassed old new
    → done.tasks.items ≡ room.tasks.items → done.calls.items ≡ room.calls.items → HasGathered new done.waiting.items done.next → IsServing told config script new done
serves_rounds told config script old new room done serves kept passed tasks calls gathered_now =
    let goes = goes_on_rounds old new passed in
    let same = same_seats room done tasks calls in
    let count : length new.script.requests ≡ length old.script.requests = ap (λ (s : Scripted). length s.requests) passed.script in
    record {
      configured = passed.config ∙ serves.configured;
      scripted = passed.script ∙ serves.scripted;
      loaders = serves.loaders;
      kept = kept;
      places = record {
        tasks_whole = ap length tasks ∙ serves.places.tasks_whole ∙ sym count;
        calls_whole = ap length calls ∙ serves.places.calls_whole ∙ sym count;
        seated = λ q s r at asked. seated_later told old new s.task s.call q r goes (serves.places.seated q s r (sym (same q) ∙ at) (ap (λ (y : Scripted). slice_get y.requests q) (sym passed.script) ∙ asked));
        gathered = gathered_now;
      };
      seats = λ q s at. ap (λ (xs : List (Option rust.Answer)). slice_get xs q) passed.answers ∙ serves.seats q s (sym (same q) ∙ at);
      blames = each_blames_passed told old new passed serves.blames;
    }

-- while somebody waits no round begins
pub serves_waiting : {A : Type 0} (told : Option Content) (config : Configured) (script : Scripted) (old new : Shown) (room : Room A) → IsServing told config script old room → IsKept told new → RoundsPassed old new → (room.waiting.items ≡ [] → ⊥) → IsServing told config script new room
serves_waiting told config script old new room serves kept passed some =
    serves_rounds told config script old new room room serves kept passed refl refl (gathered_rounds told old new room.waiting.items room.next serves.kept passed serves.places.gathered some)

-- where nobody waits those of the next round are gathered
pub serves_gathered : {A : Type 0} (told : Option Content) (config : Configured) (script : Scripted) (old new : Shown) (room done : Room A) (n : ℕ) → IsServing told config script old room → IsKept told new → room.waiting.items ≡ [] → RoundsPassed old new → (tables.RoundMayBegin new → ⊥)
    → AreOfRound script room.next done.waiting.items n → done.tasks.items ≡ room.tasks.items → done.calls.items ≡ room.calls.items → done.next ≡ n → IsServing told config script new done
serves_gathered told config script old new room done n serves kept none passed over are tasks calls next =
    let may = may_gather told old new room.next serves.kept passed (subst (λ (ws : List ℕ). HasGathered old ws room.next) none serves.places.gathered) in
    serves_rounds told config script old new room done serves kept passed tasks calls
    (subst (λ (k : ℕ). HasGathered new done.waiting.items k) (sym next)
    (gathered told new room.next done.waiting.items n kept may over (subst (λ (y : Scripted). AreOfRound y room.next done.waiting.items n) (sym (passed.script ∙ serves.scripted)) are)))

-- before the first choice
pub serves_first : {A : Type 0} (told : Option Content) (config : Configured) (script : Scripted) (empty new : Shown) (done : Room A) (n m : ℕ) → empty ≡ empty_of config script → HasLoaders (length config.loaders) script.requests → IsKept told new → RoundsPassed empty new → (tables.RoundMayBegin new → ⊥)
    → AreOfRound script 0 done.waiting.items n → m ≡ length script.requests → done.tasks.items ≡ replicate m None → done.calls.items ≡ replicate m None → done.next ≡ n → IsServing told config script new done
serves_first {A = A} told config script empty new done n m is loaders kept passed over are whole tasks calls next =
    let may = may_gather_first config script empty new is passed in
    let scripted = passed.script ∙ ap (λ (x : Shown). x.script) is in
    let count : m ≡ length new.script.requests = whole ∙ ap (λ (y : Scripted). length y.requests) (sym scripted) in
    let none = none_seated done m calls in
    record {
      configured = passed.config ∙ ap (λ (x : Shown). x.config) is;
      scripted = scripted;
      loaders = loaders;
      kept = kept;
      places = record {
        tasks_whole = ap length tasks ∙ length-replicate m None ∙ count;
        calls_whole = ap length calls ∙ length-replicate m None ∙ count;
        seated = λ q s r at asked. absurd (some_none (seat_at done q) s at (none q));
        gathered =
            subst (λ (k : ℕ). HasGathered new done.waiting.items k) (sym next)
            (gathered told new 0 done.waiting.items n kept may over (subst (λ (y : Scripted). AreOfRound y 0 done.waiting.items n) (sym scripted) are));
      };
      seats = λ q s at. absurd (some_none (seat_at done q) s at (none q));
      blames = each_blames_none told new (length script.requests) (passed.answers ∙ ap (λ (x : Shown). x.answers) is);
    }

-- ---- what falls

-- a request that waits has no more turns left than one that was not begun
first_bound : {A : Type 0} (told : Option Content) (x : Shown) (room : Room A) (ws : List ℕ) → IsRoom told x room → first_left room ws ≤ all_left + 1
first_bound told x room [] is = omega arith
first_bound {A = A} told x room (q ∷ ws) is = by_seat (seat_at room q) refl
  where
    by_seat : (o : Option (Seat A)) → seat_at room q ≡ o → left_of o ≤ all_left + 1
    by_seat None at = omega arith
    by_seat (Some s) at =
        let task = seat_task (slice_get room.tasks.items q) (slice_get room.calls.items q) s at in
        let r = some_at x.script.requests q (subst (λ (n : ℕ). q < n) is.tasks_whole (slice_get_within room.tasks.items q (Some s.task) task)) in
        let few = (is.seated q s r.0 at r.1).few in
        omega arith

add-one-mul : (s k : ℕ) → (s + 1) * k ≡ s * k + k
add-one-mul s k = ap (λ (n : ℕ). n * k) (add-one s) ∙ suc-mul s k

fewer : (s z f g : ℕ) → s + 1 ≡ z → f ≤ all_left + 1 → s * (all_left + 2) + f < z * (all_left + 2) + g
fewer s z f g one most =
    let all : (s + 1) * (all_left + 2) ≡ s * (all_left + 2) + (all_left + 2) = add-one-mul s (all_left + 2) in
    let here : z * (all_left + 2) ≡ s * (all_left + 2) + (all_left + 2) = ap (λ (n : ℕ). n * (all_left + 2)) (sym one) ∙ all in
    omega arith

fewer_first : (s z f g : ℕ) → s ≡ z → f < g → s * (all_left + 2) + f < z * (all_left + 2) + g
fewer_first s z f g same less =
    let here : z * (all_left + 2) ≡ s * (all_left + 2) = ap (λ (n : ℕ). n * (all_left + 2)) (sym same) in
    omega arith

-- while somebody waits
pub falls : {A : Type 0} (told : Option Content) (x : Shown) (choice : ℕ) (old new : Room A) → IsRoom told x new → TakesFirst choice old new → FirstFalls choice old new
falls told x choice old new is takes = λ zero_is some. elim (takes zero_is some) [
  | inl one ↦ fewer (room_sum new) (room_sum old) (first_left new new.waiting.items) (first_left old old.waiting.items) one (first_bound told x new new.waiting.items is)
  | inr same ↦ fewer_first (room_sum new) (room_sum old) (first_left new new.waiting.items) (first_left old old.waiting.items) same.0 same.2
]

-- and where those of the next round are gathered
pub falls_gathered : {A : Type 0} (told : Option Content) (x : Shown) (choice : ℕ) (old mid done : Room A) (s : Scripted) (n : ℕ) → IsRoom told x done → TakesFirst choice old mid → mid.waiting.items ≡ [] → AreOfRound s mid.next done.waiting.items n
    → length done.tasks.items ≡ length mid.tasks.items → done.next ≡ n → length s.requests ≡ length mid.tasks.items → FirstFalls choice old done
falls_gathered told x choice old mid done s n is takes none are tasks next whole = λ zero_is some. elim (takes zero_is some) [
  | inl one ↦ fewer (room_sum done) (room_sum old) (first_left done done.waiting.items) (first_left old old.waiting.items)
      (same_sum (ap length none) are.until are.within ∙ one) (first_bound told x done done.waiting.items is)
  | inr same ↦ absurd (some (sym same.1 ∙ none))
]
  where
    same_sum : length mid.waiting.items ≡ 0 → n ≡ mid.next + length done.waiting.items → n ≤ length s.requests → room_sum done + 1 ≡ room_sum mid + 1
    same_sum a b c = omega (arith, a, b, c, tasks, next, whole)

-- ---- who waits

pub none_waits : (ws : List ℕ) (n : ℕ) → n ≡ length ws → n ≡ 0 → ws ≡ []
none_waits ws n count none = empty ws (sym count ∙ none)
  where
    empty : (xs : List ℕ) → length xs ≡ 0 → xs ≡ []
    empty [] e = refl
    empty (x ∷ xs) e = absurd (omega arith)

pub some_wait : (ws : List ℕ) (n : ℕ) → n ≡ length ws → (n ≡ 0 → ⊥) → ws ≡ [] → ⊥
some_wait ws n count some none = some (count ∙ ap length none)
