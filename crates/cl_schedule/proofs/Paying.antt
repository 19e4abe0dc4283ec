-- How many calls a request has left by its plan: each taking leaves one fewer, and what the others did between leaves no more (JVMS SE 8, 5.3 to 5.4.3).
use Rattle.std.proofs.Common.{◌≡◌, ◌∙◌, ◌+◌, ◌≤◌, ℕ, suc, List, [], Option, Some, None, refl, sym, ap, subst, arith}
use Rattle.std.specs.Prelude.{IfSome, MatchOption, slice_get}
use Rattle.cl_config.specs.Loaders.{schedule_of}
use Rattle.cl_config.specs.Views.{Configured, Scripted}
use Rattle.cl_model.specs.declared.answer.Answer as rust
use Rattle.cl_model.specs.declared.request.Request.{Request}
use Rattle.cl_model.specs.Content.{Content}
use Rattle.cl_model.specs.Homes.{World}
use Rattle.cl_model.specs.Service.{MayEnd}
use Rattle.cl_model.specs.States.{Verdict, recorded_definer}
use Rattle.cl_model.specs.Machine.{IsPlan}
use Rattle.cl_model.specs.Plans.{Plan, cost}
use Rattle.cl_model.specs.Views.{answer_of, request_of}
use Rattle.cl_registry.specs.Tables.{Shown, IsKept, IsOpen, state_of, with_post, machine}
use Rattle.cl_tasks.specs.Blames.{AnswerBlames}
use Rattle.cl_tasks.specs.Calls.{calls_in}
use Rattle.cl_tasks.specs.Follows.{AreLeft, CallsWithin, IsWithinCost, TellsNow, made_by}
use Rattle.cl_tasks.specs.Measures.{all_left}
use Rattle.cl_tasks.specs.Tasks.{Tasked}
use Rattle.cl_tasks.specs.Turns.{call_of}
use Rattle.cl_tasks.specs.declared.turn.Reply.{Reply}
use Rattle.cl_tasks.specs.declared.turn.Turn.{Turn}
use Rattle.cl_tasks.specs.declared.turn.Turn.TheVariants as turn
use Rattle.cl_schedule.specs.declared.choices.Room.{Room}
use Rattle.cl_schedule.specs.declared.seats.Seat.{Seat}
use Rattle.cl_schedule.specs.Blames.{IsAskedFor}
use Rattle.cl_schedule.specs.Choices.{taken_by}
use Rattle.cl_schedule.specs.Nearing.{IsNear, by_verdict}
use Rattle.cl_schedule.specs.Paying.{IsPlanIn, PaysFor, StartsWithin, by_plan}
use Rattle.cl_schedule.specs.Places.{seat_at}
use Rattle.cl_schedule.specs.Replies.{CallSays, IsCall, AsksForRead}
use Rattle.cl_schedule.specs.Rooms.{AllSeated, HasTurned, IsServing, MayBeTaken, KeepsTakings, WaitsAgain, left_of_request}
use Rattle.cl_schedule.specs.Rounds.{RoundsPassed}
use Rattle.cl_schedule.specs.Seats.{GoesOn, HasPosted, TaskIsReady, IsSeated, IsSeatedAt}
use Rattle.cl_schedule.specs.Takings.{ComesNearer}
use Rattle.cl_schedule.proofs.Later.{is_later}
use Rattle.cl_schedule.proofs.Nearing.{memory_known, same_request, verdict_measure}
use Rattle.cl_schedule.proofs.Places.{HasMoved, same_seats}
use Rattle.cl_schedule.proofs.Rooming.{steps_posted}
use Rattle.cl_schedule.proofs.Seated.{after_call, ready_again}
use Rattle.cl_schedule.proofs.Steps.{of_request, served_in}
use Rattle.cl_schedule.proofs.Takings.{IsMeasure, begun_nearer, keeps_none, keeps_rounds, keeps_turned}

-- ---- numbers

no_more : (a b c : ℕ) → a ≤ b → b ≤ c → a ≤ c
no_more a b c h k = omega arith

-- ---- from a reply to the call

-- a turn that is no read asks for none
pub no_read_is : {A : Type 0} (u : Turn A) → ((l : ℕ) (n : List ℕ) → u ≡ turn.Read l n → ⊥) → AsksForRead u → ⊥
no_read_is (turn.Read l n) unread is = unread l n refl
no_read_is other unread is = is

-- a call that is no read is one of the tables
made_call : {A : Type 0} (u : Turn A) → IsCall u → (AsksForRead u → ⊥) → made_by (call_of u) ≡ 1
made_call (turn.Read l n) call unread = absurd (unread tt)
made_call (turn.Post f) call unread = absurd call
made_call other call unread = refl

-- a turn leaves no more calls than there were, but for the one before it
pub pays_on : {A : Type 0} (told : Option Content) (x : Shown) (r : Request) (t next : Tasked) (given : Reply A) → TaskIsReady told x t given r → IfSome t.request (λ r. CallsWithin told t.config (λ x. TellsNow x t given) r (made_by t.waits) next.calls t.calls)
    → PaysFor told x r t next
pays_on told x r t next given ready calls = λ w p is.
    let within = of_request t.request r (λ (r : Request). CallsWithin told t.config (λ x. TellsNow x t given) r (made_by t.waits) next.calls t.calls) ready.request calls in
    subst (λ (v : World). made_by t.waits + calls_in next.calls v p (state_of x) ≤ calls_in t.calls v p (state_of x)) (sym is.world)
    (within (machine x is.content) x p (served_in told x t.config is.content is.told_so ready.kept (sym ready.config)) (subst (λ (v : World). IsPlan v (request_of r) p) is.world is.planned) ready.tells)

-- between a task's reads: the call that it waited for at first and those that it has left now are no more than it had left, and the one that it waits for
abbrev pub IsPaying : Option Content → Shown → Request → Tasked → Tasked → Type 0
IsPaying told x r first now =
    (w : World) (p : Plan) → IsPlanIn told x.config (request_of r) w p
    → made_by first.waits + calls_in now.calls w p (state_of x) ≤ made_by now.waits + calls_in first.calls w p (state_of x)

pub paying_none : (told : Option Content) (x : Shown) (r : Request) (t : Tasked) → IsPaying told x r t t
paying_none told x r t = λ w p is. same (made_by t.waits + calls_in t.calls w p (state_of x))
  where
    same : (n : ℕ) → n ≤ n
    same n = omega arith

pub pays_then : (told : Option Content) (x : Shown) (r : Request) (first t next : Tasked) → IsPaying told x r first t → PaysFor told x r t next → PaysFor told x r first next
pays_then told x r first t next paying pays = λ w p is.
    over (made_by first.waits) (calls_in t.calls w p (state_of x)) (made_by t.waits) (calls_in first.calls w p (state_of x)) (calls_in next.calls w p (state_of x)) (paying w p is) (pays w p is)
  where
    over : (a b c d e : ℕ) → a + b ≤ c + d → c + e ≤ b → a + e ≤ d
    over a b c d e h k = omega arith

pub paying_read : (told : Option Content) (x : Shown) (r : Request) (first next : Tasked) → PaysFor told x r first next → IsPaying told x r first next
paying_read told x r first next pays = λ w p is. over (made_by first.waits + calls_in next.calls w p (state_of x)) (made_by next.waits) (calls_in first.calls w p (state_of x)) (pays w p is)
  where
    over : (a b c : ℕ) → a ≤ c → a ≤ b + c
    over a b c h = omega arith

-- a request that begins has no more left than it costs
pub starts_within : (told : Option Content) (x : Shown) (r : Request) (t next : Tasked) → IsWithinCost t.calls → PaysFor told x r t next → StartsWithin told x r next
starts_within told x r t next within pays = λ w p is. over (made_by t.waits) (calls_in next.calls w p (state_of x)) (calls_in t.calls w p (state_of x)) (cost w p) (pays w p is) (within w p (state_of x))
  where
    over : (a b c d : ℕ) → a + b ≤ c → c ≤ d → b ≤ d
    over a b c d h k = omega arith

-- ---- later on

none_before : (old new : Shown) → GoesOn old new → (l : ℕ) (name : List ℕ) → recorded_definer (state_of new).records l name ≡ None → recorded_definer (state_of old).records l name ≡ None
none_before old new goes l name none = by_record (recorded_definer (state_of old).records l name) (λ place is. (is_later old new goes).records l place name is)
  where
    apart : (o : Option ℕ) (place : ℕ) → o ≡ Some place → o ≡ None → ⊥
    apart o place e k = cc

    by_record : (o : Option ℕ) → ((place : ℕ) → o ≡ Some place → recorded_definer (state_of new).records l name ≡ Some place) → o ≡ None
    by_record None stays = refl
    by_record (Some place) stays = absurd (apart (recorded_definer (state_of new).records l name) place (stays place refl) none)

-- no more calls are left where the registry went on
fewer_later : (old new : Shown) (w : World) (p : Plan) (t : Tasked) → GoesOn old new → AreLeft t.calls → calls_in t.calls w p (state_of new) ≤ calls_in t.calls w p (state_of old)
fewer_later old new w p t goes left = left.fewer w p (state_of old) (state_of new) (none_before old new goes)

-- ---- from a call to the next

-- a seat's call was made, and the request went on: one call fewer is left
pub call_pays : {A S : Type 0} (told : Option Content) (old new : Shown) (was now : Seat A) (q : ℕ) (more : Reply A) (count later : ℕ) (since source : S) → IsKept told old → IsSeatedAt told old was.task was.call q → CallSays told old new was.call more count later since source
    → ((x : Shown) (r : Request) → TaskIsReady told x was.task more r → PaysFor told x r was.task now.task) → ComesNearer (by_plan told old.config) old new q (Some was) (Some now)
call_pays told old new was now q more count later since source kept (k, may, seated) says goes_on = λ r known n asked is few.
    let w = known.0 in
    let p = known.1 in
    let t = was.task in
    let goes : GoesOn old new = (after_call told old new was.call more count later since source says).goes in
    let ready : TaskIsReady told new t more k = ready_again told old new t was.call q k more count later since source kept seated says in
    let of : IsPlanIn told old.config (request_of k) w p = subst (λ (m : Request). IsPlanIn told old.config (request_of m) w p) (same_request old q r k asked may.asked) is in
    let plan = subst (λ (c : Configured). IsPlanIn told c (request_of k) w p) (sym goes.config) of in
    let one : made_by t.waits ≡ 1 = ap made_by seated.asks ∙ made_call was.call says.call seated.unread in
    over (made_by t.waits) (calls_in now.task.calls w p (state_of new)) (calls_in t.calls w p (state_of new)) (calls_in t.calls w p (state_of old)) n one
    (goes_on new k ready w p plan) (fewer_later old new w p t goes seated.more) few
  where
    over : (m e b a n : ℕ) → m ≡ 1 → m + e ≤ b → b ≤ a → a ≤ suc n → e ≤ n
    over m e b a n one pays less few = omega arith

-- a request was answered
pub posted_pays : {A : Type 0} (told : Option Content) (old new : Shown) (q : ℕ) (before : Option (Seat A)) → IsKept told old → HasPosted told old new q → ComesNearer (by_plan told old.config) old new q before None
posted_pays told old new q before kept posted = λ r k n asked is few. (answer_of posted.answer, [], tt, steps_posted told old new q kept posted)

-- ---- the measure

pub plan_measure : {A : Type 0} (told : Option Content) (c : Configured) → IsMeasure {A = A} told (by_plan told c)
plan_measure told c = record {
  more = λ s r k few many seat more within. no_more (calls_in seat.task.calls k.0 k.1 s) few many within more;
  fits = λ old new r k goes is. is;
  later = λ old new q r k n seat goes seated within. no_more (calls_in seat.task.calls k.0 k.1 (state_of new)) (calls_in seat.task.calls k.0 k.1 (state_of old)) n (fewer_later old new k.0 k.1 seat.task goes seated.more) within;
  once = λ x q r j k seat seated within. none (calls_in seat.task.calls k.0 k.1 (state_of x)) (seated.more.post k.0 k.1 (state_of x)) within;
}
  where
    none : (n : ℕ) → 1 ≤ n → n ≤ 0 → ⊥
    none n more few = omega arith

-- ---- a choice, by both measures

-- memory ran out before a request was begun
pub turned_memory : {A : Type 0} (told : Option Content) (old new : Shown) (q : ℕ) (before : Option (Seat A)) (a : rust.Answer) → IsKept told old → MayBeTaken old q → a ≡ rust.TheVariants.Memory → new ≡ with_post old q a → HasTurned told old new q before None
turned_memory told old new q before a kept r is posted =
    let did : HasPosted told old new q = record {
      request = r.0;
      asked = r.1.asked;
      unanswered = r.1.unanswered;
      answer = a;
      posted = posted;
      ends = λ content e. subst (λ (b : rust.Answer). MayEnd (machine old content) (state_of old) (request_of r.0) (answer_of b)) (sym is) tt;
      blames = subst (λ (b : rust.Answer). AnswerBlames old.config (IsAskedFor told old.config r.0) b) (sym is) tt;
    } in
    record { did = did; known = memory_known told old new q a before kept r.1.unanswered is posted; paid = posted_pays told old new q before kept did }

-- a request was begun, and took its first turn
pub turned_begun : {A : Type 0} (told : Option Content) (old new : Shown) (q : ℕ) (r : Request) (seat : Seat A) (after : Option (Seat A)) → slice_get old.script.requests q ≡ Some r → IsSeated told old seat.task seat.call q r
    → ((v : Verdict) → IsNear (state_of old) r v 3 seat.task seat.call) → StartsWithin told old r seat.task → HasTurned told old new q (Some seat) after → HasTurned told old new q None after
turned_begun {A = A} told old new q r seat after asked seated near starts turned = record {
  did = less after turned.did;
  known = begun_nearer told by_verdict old new q seat after (verdict_measure told)
      (λ k v of has. subst (λ (m : Request). IsNear (state_of old) m v 3 seat.task seat.call) (same_request old q r k asked of) (near v)) turned.known;
  paid = begun_nearer told (by_plan told old.config) old new q seat after (plan_measure told old.config)
      (λ k w of is. starts w.0 w.1 (subst (λ (m : Request). IsPlanIn told old.config (request_of m) w.0 w.1) (same_request old q k r of asked) is)) turned.paid;
}
  where
    less : (after : Option (Seat A)) → MatchOption after (HasPosted told old new q) (WaitsAgain told old new q seat.task.left) → MatchOption after (HasPosted told old new q) (WaitsAgain told old new q (all_left + 1))
    less None posted = posted
    less (Some s) waits = record { advanced = waits.advanced; seated = waits.seated; less = let few = seated.few in let fewer = waits.less in omega arith }

pub takings_none : {A : Type 0} (told : Option Content) (x : Shown) (room : Room A) (choice : ℕ) → AllSeated told x room → taken_by (schedule_of x.script) (state_of x) choice ≡ None → KeepsTakings told x x room room choice
takings_none told x room choice seated nobody = record {
  known = keeps_none told by_verdict x room choice (verdict_measure told) seated nobody;
  paid = keeps_none told (by_plan told x.config) x room choice (plan_measure told x.config) seated nobody;
}

pub takings_turned : {A : Type 0} (told : Option Content) (config : Configured) (script : Scripted) (old new : Shown) (room done : Room A) (choice q : ℕ) (after : Option (Seat A)) → IsServing told config script old room → IsOpen old q → taken_by (schedule_of old.script) (state_of old) choice ≡ Some q
    → HasTurned told old new q (seat_at room q) after → HasMoved room done q after → KeepsTakings told old new room done choice
takings_turned told config script old new room done choice q after serves is_open whom turned moved = record {
  known = keeps_turned told by_verdict old new room done choice q (left_of_request room q) after (verdict_measure told) serves.kept serves.places.seated is_open whom turned.did moved turned.known;
  paid = keeps_turned told (by_plan told old.config) old new room done choice q (left_of_request room q) after (plan_measure told old.config) serves.kept serves.places.seated is_open whom turned.did moved turned.paid;
}

pub takings_rounds : {A : Type 0} (told : Option Content) (old mid new : Shown) (was room done : Room A) (choice : ℕ) → AllSeated told mid room → RoundsPassed mid new → done.tasks.items ≡ room.tasks.items → done.calls.items ≡ room.calls.items → KeepsTakings told old mid was room choice → KeepsTakings told old new was done choice
takings_rounds told old mid new was room done choice seated passed tasks calls keeps = record {
  known = keeps_rounds told by_verdict old mid new was room done choice (verdict_measure told) seated passed (same_seats room done tasks calls) keeps.known;
  paid = keeps_rounds told (by_plan told old.config) old mid new was room done choice (plan_measure told old.config) seated passed (same_seats room done tasks calls) keeps.paid;
}
