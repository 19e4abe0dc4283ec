-- The count of a source beside the answers that are its faults, with those that are still to be posted.
use Rattle.std.proofs.Common.{◌≡◌, inl, inr, ◌∙◌, ◌+◌, ◌<◌, ℕ, zero, suc, List, [], ◌∷◌, length, map, Option, Some, None, Result, Ok, Err, refl, sym, ap, subst, arith}
use Rattle.std.specs.Prelude.{IfOk, slice_get, slice_set}
use Rattle.cl_config.specs.Views.{Configured, Scripted}
use Rattle.cl_findings.specs.Findings.{Answered}
use Rattle.cl_model.specs.declared.answer.Answer.{Answer}
use Rattle.cl_model.specs.Content.{Content}
use Rattle.cl_registry.specs.declared.report.Report.{Report}
use Rattle.cl_registry.specs.Reports.{IsReport, IsUnfinished}
use Rattle.cl_registry.specs.Tables.{Shown, IsOpen, empty_of, with_post}
use Rattle.cl_tasks.specs.Follows.{Refuses, refusal}
use Rattle.cl_tasks.specs.Tasks.{Tasked}
use Rattle.cl_tasks.specs.Turns.{Expects}
use Rattle.cl_tasks.specs.declared.turn.Reply.{Reply}
use Rattle.cl_tasks.specs.declared.turn.Turn.{Turn}
use Rattle.cl_tasks.specs.declared.turn.Turn.TheVariants as turn
use Rattle.cl_schedule.specs.declared.choices.Room.{Room}
use Rattle.cl_schedule.specs.declared.seats.Seat.{Seat}
use Rattle.cl_schedule.specs.Counting.{CountGrows, CountsFaults, Grows, RoseBy, debt, fault, faults, owed_fault, owed_all, owed_at, owed_of, told_faults}
use Rattle.cl_schedule.specs.Places.{seat_at, seat_of}
use Rattle.cl_schedule.specs.Replies.{CallSays, IsCall, IsStepOf}
use Rattle.cl_schedule.specs.Rooms.{HasTaken, RoomIsOver, IsServing, NoneSeated, ServesOn}
use Rattle.cl_schedule.specs.Rounds.{RoundsPassed}
use Rattle.cl_schedule.specs.Seats.{HasGathered}
use Rattle.cl_schedule.proofs.Counted.{faults_none, faults_set, grows_none, grows_same, grows_then, told_fault, told_none}
use Rattle.cl_schedule.proofs.Places.{mid_tasks, no_seat, same_set}
use Rattle.cl_schedule.proofs.Rooming.{same_answers}
use Rattle.cl_schedule.proofs.Waiting.{none_left}

-- ---- numbers that grow as the count does

pub count_none : (n k : ℕ) → CountGrows n n k k
count_none n k = record { number = 0; counted = omega arith; grows = grows_none k }

-- one after the other
pub count_then : (a b c k l m : ℕ) → CountGrows a b k l → CountGrows b c l m → CountGrows a c k m
count_then a b c k l m g h = record {
  number = g.number + h.number;
  counted = let one = g.counted in let two = h.counted in omega arith;
  grows = grows_then g.number h.number k l m g.grows h.grows;
}

-- after nothing was told of
pub count_told : (n a b k l m : ℕ) → CountGrows n a k l → a ≡ 0 → Grows b l m → CountGrows n b k m
count_told n a b k l m g none h = record {
  number = g.number + b;
  counted = let one = g.counted in omega arith;
  grows = grows_then g.number b k l m g.grows h;
}

-- the same numbers
pub count_is : (a b c d k l : ℕ) → c ≡ a → d ≡ b → CountGrows a b k l → CountGrows c d k l
count_is a b c d k l one two g = record { number = g.number; counted = let e = g.counted in omega arith; grows = g.grows }

-- as many more before and behind
pub count_beside : (n a b c d k l : ℕ) → c ≡ n + a → d ≡ n + b → CountGrows a b k l → CountGrows c d k l
count_beside n a b c d k l one two g = record { number = g.number; counted = let e = g.counted in omega arith; grows = g.grows }

-- ---- a turn

-- a turn posts a fault of the source where the reply before it told of one, and nowhere else
pub owed_told : {A : Type 0} (t : Tasked) (r : Reply A) (u : Turn A) → Expects t r → Refuses (refusal t r) u → owed_fault u ≡ told_faults r
owed_told t r (turn.Post f) e h = told_fault t r f e h
owed_told {A = A} t r other e h = sym (told_none A t r other h tt)

owed_call : {A : Type 0} (u : Turn A) → IsCall u → owed_fault u ≡ 0
owed_call (turn.Post f) call = absurd call
owed_call other call = refl

-- ---- a choice of one request

-- its answer is posted
pub count_posted : {A : Type 0} (old new : Shown) (u : Turn A) (f : Answered) (q k : ℕ) → u ≡ turn.Post f → IsOpen old q → new ≡ with_post old q f.answer → CountGrows (faults old.answers + owed_fault u) (faults new.answers + 0) k k
count_posted old new u f q k is opened posted = record {
  number = 0;
  counted =
      let one = ap owed_fault is in
      let two = ap (λ (x : Shown). faults x.answers) posted ∙ faults_set old.answers q f.answer opened in
      omega arith;
  grows = grows_none k;
}

-- its call is made
pub count_called : {A S : Type 0} (told : Option Content) (old new : Shown) (u w : Turn A) (given : Reply A) (k l m : ℕ) (since source : S) → CallSays told old new u given k l since source → CountGrows (told_faults given) (owed_fault w) l m
    → CountGrows (faults old.answers + owed_fault u) (faults new.answers + owed_fault w) k m
count_called told old new u w given k l m since source says g = record {
  number = told_faults given + g.number;
  counted =
      let none = owed_call u says.call in
      let same = ap faults (same_answers old new (IsStepOf old u) says.did) in
      let more = g.counted in
      omega arith;
  grows = grows_then (told_faults given) g.number k l m says.faults g.grows;
}

-- it is taken from there
pub count_seated : (n at here k l : ℕ) → here ≡ at → l ≡ k → CountGrows (n + at) (n + here) k l
count_seated n at here k l same unread = record { number = 0; counted = omega arith; grows = grows_same k l unread }

-- one that begins
pub count_begun : (n at here more k l m : ℕ) → at ≡ 0 → here ≡ more → m ≡ l → CountGrows 0 more k l → CountGrows (n + at) (n + here) k m
count_begun n at here more k l m none same unread g = record {
  number = g.number;
  counted = let one = g.counted in omega arith;
  grows = subst (λ (i : ℕ). Grows g.number k i) (sym unread) g.grows;
}

-- and then goes on, or is answered
pub count_first : {B E : Type 0} (r : Result B E) (a b : ℕ) (more : B → ℕ) (k l m : ℕ) → CountGrows a b k l → IfOk r (λ o. CountGrows b (more o) l m) → IfOk r (λ o. CountGrows a (more o) k m)
count_first (Ok o) a b more k l m g h = count_then a b (more o) k l m g h
count_first (Err e) a b more k l m g h = tt

-- one for which memory ran out before it began
pub count_refused : (old new : Shown) (at q k l : ℕ) (a : Answer) → at ≡ 0 → fault a ≡ 0 → l ≡ k → IsOpen old q → new ≡ with_post old q a → CountGrows (faults old.answers + at) (faults new.answers + 0) k l
count_refused old new at q k l a none quiet unread opened posted = record {
  number = 0;
  counted = let one = ap (λ (x : Shown). faults x.answers) posted ∙ faults_set old.answers q a opened in omega arith;
  grows = grows_same k l unread;
}

-- ---- places

no_call : (A : Type 0) (o : Option (Option Tasked)) → owed_of (seat_of {A = A} o None) ≡ 0
no_call A o = ap owed_of (no_seat o None (λ t u task call. absurd cc))

empty_call : (A : Type 0) (o : Option (Option Tasked)) → owed_of (seat_of {A = A} o (Some None)) ≡ 0
empty_call A o = ap owed_of (no_seat o (Some None) (λ t u task call. absurd cc))

-- a call is taken from its place
owed_drop : {A : Type 0} (ts : List (Option Tasked)) (us : List (Option (Turn A))) (q : ℕ) → owed_all ts us ≡ owed_all ts (slice_set us q None) + owed_of (seat_of (slice_get ts q) (slice_get us q))
owed_drop [] us q = refl
owed_drop {A = A} (t ∷ ts) [] q = let none = no_call A (slice_get (t ∷ ts) q) in omega arith
owed_drop {A = A} (t ∷ ts) (u ∷ us) zero = let none = empty_call A (Some t) in omega arith
owed_drop (t ∷ ts) (u ∷ us) (suc q) = let more = owed_drop ts us q in omega arith

-- a task and its call are
owed_take : {A : Type 0} (ts : List (Option Tasked)) (us : List (Option (Turn A))) (q : ℕ) → owed_all ts us ≡ owed_all (slice_set ts q None) (slice_set us q None) + owed_of (seat_of (slice_get ts q) (slice_get us q))
owed_take [] us q = refl
owed_take {A = A} (t ∷ ts) [] zero = let none = no_call A (Some t) in omega arith
owed_take {A = A} (t ∷ ts) [] (suc q) = let none = no_call A (slice_get ts q) in omega arith
owed_take (t ∷ ts) (u ∷ us) zero = omega arith
owed_take (t ∷ ts) (u ∷ us) (suc q) = let more = owed_take ts us q in omega arith

-- a request is taken from its place
owed_taken : {A : Type 0} (room mid : Room A) (q : ℕ) → HasTaken room mid q → owed_all room.tasks.items room.calls.items ≡ owed_all mid.tasks.items mid.calls.items + owed_at room q
owed_taken {A = A} room mid q taken = elim taken.tasks [
  | inl same ↦
      (let here = ap (λ (us : List (Option (Turn A))). owed_all mid.tasks.items us) taken.calls in
      let there = ap (λ (ts : List (Option Tasked)). owed_all ts (slice_set room.calls.items q None)) same in
      let drop = owed_drop room.tasks.items room.calls.items q in
      omega arith)
  | inr set ↦
      (let here = ap (λ (us : List (Option (Turn A))). owed_all mid.tasks.items us) taken.calls in
      let there = ap (λ (ts : List (Option Tasked)). owed_all ts (slice_set room.calls.items q None)) set in
      let take = owed_take room.tasks.items room.calls.items q in
      omega arith)
]

-- a request is put in a place that has none
owed_put : {A : Type 0} (ts : List (Option Tasked)) (us : List (Option (Turn A))) (q : ℕ) (t : Tasked) (u : Turn A) → q < length ts → slice_get us q ≡ Some None → owed_all (slice_set ts q (Some t)) (slice_set us q (Some u)) ≡ owed_all ts us + owed_fault u
owed_put [] us q t u below none = absurd (omega arith)
owed_put (s ∷ ts) [] q t u below none = absurd cc
owed_put {A = A} (s ∷ ts) (None ∷ us) zero t u below none = let empty = empty_call A (Some s) in omega arith
owed_put (s ∷ ts) (Some w ∷ us) zero t u below none = absurd cc
owed_put (s ∷ ts) (w ∷ us) (suc q) t u below none = let more = owed_put ts us q t u (omega arith) none in omega arith

-- where there is no seat
owed_nothing : {A : Type 0} (ts : List (Option Tasked)) (us : List (Option (Turn A))) → ((q : ℕ) → seat_of (slice_get ts q) (slice_get us q) ≡ None) → owed_all ts us ≡ 0
owed_nothing [] us none = refl
owed_nothing (t ∷ ts) [] none = refl
owed_nothing (t ∷ ts) (u ∷ us) none = let here = ap owed_of (none 0) in let more = owed_nothing ts us (λ q. none (suc q)) in omega arith

-- ---- the room after a choice

-- a request was answered
pub debt_posted : {A : Type 0} (old new : Shown) (room mid done : Room A) (o : Option (Seat A)) (q k l : ℕ) → o ≡ None → HasTaken room mid q → CountGrows (faults old.answers + owed_at room q) (faults new.answers + owed_of o) k l
    → done.tasks.items ≡ mid.tasks.items → done.calls.items ≡ mid.calls.items → CountGrows (debt old room) (debt new done) k l
debt_posted {A = A} old new room mid done o q k l none taken g tasks calls =
    let left = owed_all mid.tasks.items mid.calls.items in
    let was = owed_taken room mid q taken in
    let no_more : owed_of o ≡ 0 = ap owed_of none in
    let here : owed_all done.tasks.items done.calls.items ≡ left =
    ap (λ (ts : List (Option Tasked)). owed_all ts done.calls.items) tasks ∙ ap (λ (us : List (Option (Turn A))). owed_all mid.tasks.items us) calls in
    count_beside left (faults old.answers + owed_at room q) (faults new.answers + owed_of o) (debt old room) (debt new done) k l (omega arith) (omega arith) g

-- a request went on
pub debt_advanced : {A : Type 0} (old new : Shown) (room mid done : Room A) (o : Option (Seat A)) (s : Seat A) (q k l : ℕ) → o ≡ Some s → HasTaken room mid q → q < length room.tasks.items → q < length room.calls.items
    → CountGrows (faults old.answers + owed_at room q) (faults new.answers + owed_of o) k l
    → done.tasks.items ≡ slice_set mid.tasks.items q (Some s.task) → done.calls.items ≡ slice_set mid.calls.items q (Some s.call) → CountGrows (debt old room) (debt new done) k l
debt_advanced {A = A} old new room mid done o s q k l some taken in_tasks in_calls g tasks calls =
    let left = owed_all mid.tasks.items mid.calls.items in
    let was = owed_taken room mid q taken in
    let more : owed_of o ≡ owed_fault s.call = ap owed_of some in
    let free : slice_get mid.calls.items q ≡ Some None = ap (λ (us : List (Option (Turn A))). slice_get us q) taken.calls ∙ same_set room.calls.items q None in_calls in
    let here : owed_all done.tasks.items done.calls.items ≡ left + owed_fault s.call =
    ap (λ (ts : List (Option Tasked)). owed_all ts done.calls.items) tasks ∙ ap (λ (us : List (Option (Turn A))). owed_all (slice_set mid.tasks.items q (Some s.task)) us) calls
    ∙ owed_put mid.tasks.items mid.calls.items q s.task s.call (let whole = mid_tasks room mid q taken in omega arith) free in
    count_beside left (faults old.answers + owed_at room q) (faults new.answers + owed_of o) (debt old room) (debt new done) k l (omega arith) (omega arith) g

-- nothing was posted, and no request has another place
pub debt_same : {A : Type 0} (old new : Shown) (room done : Room A) → new.answers ≡ old.answers → done.tasks.items ≡ room.tasks.items → done.calls.items ≡ room.calls.items → debt new done ≡ debt old room
debt_same {A = A} old new room done answers tasks calls =
    ap (λ (xs : List (Option Answer)). faults xs + owed_all done.tasks.items done.calls.items) answers
    ∙ ap (λ (ts : List (Option Tasked)). faults old.answers + owed_all ts done.calls.items) tasks
    ∙ ap (λ (us : List (Option (Turn A))). faults old.answers + owed_all room.tasks.items us) calls

-- the rounds behind a choice
pub debt_rounds : {A : Type 0} (old mid new : Shown) (first room done : Room A) (k l : ℕ) → CountGrows (debt old first) (debt mid room) k l → RoundsPassed mid new → done.tasks.items ≡ room.tasks.items → done.calls.items ≡ room.calls.items
    → CountGrows (debt old first) (debt new done) k l
debt_rounds old mid new first room done k l g passed tasks calls =
    count_is (debt old first) (debt mid room) (debt old first) (debt new done) k l refl (debt_same mid new room done passed.answers tasks calls) g

-- before the first choice
pub debt_first : {A : Type 0} (config : Configured) (script : Scripted) (empty new : Shown) (room : Room A) → empty ≡ empty_of config script → RoundsPassed empty new → NoneSeated room → debt new room ≡ 0
debt_first config script empty new room is passed none =
    let answers : faults new.answers ≡ 0 = ap faults passed.answers ∙ ap (λ (x : Shown). faults x.answers) is ∙ faults_none (length script.requests) in
    let places : owed_all room.tasks.items room.calls.items ≡ 0 = owed_nothing room.tasks.items room.calls.items none in
    omega arith

-- ---- at the end

-- where each request has its answer none has not
pub none_unfinished : {A : Type 0} (told : Option Content) (config : Configured) (script : Scripted) (x : Shown) (room : Room A) → IsServing told config script x room → RoomIsOver x room → IsUnfinished x → ⊥
none_unfinished told config script x room serves over = none_left told x room.next serves.kept (subst (λ (ws : List ℕ). HasGathered x ws room.next) over.none serves.places.gathered) over.over

-- as many answers of the report are faults of the source as the count rose by
pub counts_faults : {A : Type 0} (told : Option Content) (config : Configured) (script : Scripted) (first x : Shown) (opened room : Room A) (r : Report) (k l : ℕ) → debt first opened ≡ 0 → ServesOn told config script first x opened room k l → RoomIsOver x room → IsReport x r → CountsFaults r k l
counts_faults {A = A} told config script first x opened room r k l none on over is =
    let nothing = owed_nothing room.tasks.items room.calls.items (λ q. by_seat q (seat_at room q) refl) in
    let more = on.faults.counted in
    let answers : faults (map (λ a. Some a) r.answers) ≡ faults x.answers = ap faults is.answers in
    let number : on.faults.number ≡ faults (map (λ a. Some a) r.answers) = omega arith in
    subst (λ (n : ℕ). RoseBy n k l) number on.faults.grows.rose
  where
    by_seat : (q : ℕ) (o : Option (Seat A)) → seat_at room q ≡ o → o ≡ None
    by_seat q None at = refl
    by_seat q (Some s) at = absurd (none_unfinished told config script x room on.serves over (inl (q, on.serves.seats q s at)))
