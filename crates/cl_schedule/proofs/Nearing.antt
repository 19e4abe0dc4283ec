-- A request whose verdict the tables have, while requests take turns: each call brings it nearer to its answer (JVMS SE 8, 5.3, 5.4.2, 5.4.3).
use Rattle.std.proofs.Common.{◌≡◌, ◌⊎◌, inl, inr, ◌∙◌, ◌+◌, ◌<◌, ◌≤◌, ℕ, true, List, Option, Some, None, refl, sym, ap, subst, arith}
use Rattle.std.specs.Prelude.{[], slice_get}
use Rattle.cl_model.specs.declared.answer.Answer as rust
use Rattle.cl_model.specs.declared.class.Class.{Class}
use Rattle.cl_model.specs.declared.request.Request.{Request}
use Rattle.cl_model.specs.declared.request.Request.TheVariants as requests
use Rattle.cl_model.specs.Content.{Content}
use Rattle.cl_model.specs.States.{State, Verdict}
use Rattle.cl_model.specs.Machine.{Step, state_after}
use Rattle.cl_model.specs.Plans as plans
use Rattle.cl_model.specs.Views.{answer_of}
use Rattle.cl_model.proofs.Bind.{value_same}
use Rattle.cl_model.proofs.Sound.{settled_stay, prepared_stay}
use Rattle.cl_config.specs.Views.{Configured}
use Rattle.cl_findings.specs.Findings.{Answered}
use Rattle.cl_registry.specs.Tables.{Shown, IsKept, IsOpen, state_of, steps, with_post}
use Rattle.cl_registry.proofs.Histories.{steps_posts, unposted}
use Rattle.cl_tasks.specs.Follows.{Refuses, refusal}
use Rattle.cl_tasks.specs.Tasks.{Tasked}
use Rattle.cl_tasks.specs.Turns.{AnswersOwn, GoesOnWith, IsReplyTo, call_of}
use Rattle.cl_tasks.specs.declared.turn.Reply.{Reply}
use Rattle.cl_tasks.specs.declared.turn.Reply.TheVariants as reply
use Rattle.cl_tasks.specs.declared.turn.Turn.{Turn}
use Rattle.cl_tasks.specs.declared.turn.Turn.TheVariants as turn
use Rattle.cl_schedule.specs.declared.seats.Seat.{Seat}
use Rattle.cl_schedule.specs.Known.{HasVerdict}
use Rattle.cl_schedule.specs.Nearing.{AtHand, IsNear, OnWay, OwnCall, by_verdict, calls_after, calls_from}
use Rattle.cl_schedule.specs.Replies.{CallSays, IsCall, IsReplied}
use Rattle.cl_schedule.specs.Seats.{GoesOn, IsSeatedAt}
use Rattle.cl_schedule.specs.Takings.{ComesNearer}
use Rattle.cl_schedule.proofs.Known.{has_stays}
use Rattle.cl_schedule.proofs.Seated.{request_of_call}
use Rattle.cl_schedule.proofs.Stations.{no_post_or, no_posts, own_call, own_same, own_told, post_says}
use Rattle.cl_schedule.proofs.Takings.{IsMeasure}
use Rattle.cl_schedule.proofs.Later.{state_later}

-- ---- from a reply to the call

no_look : (A : Type 0) (r : Request) (c : Class) (new : Tasked) (l : ℕ) (n : List ℕ) → GoesOnWith {A = A} r c new (turn.Look l n) → ⊥
no_look A (requests.Load loader name) c new l n goes = goes
no_look A (requests.Resolve loader name i) c new l n goes = goes
no_look A (requests.Link loader name) c new l n goes = goes

goes_few : {A : Type 0} (r : Request) (c : Class) (new : Tasked) (u : Turn A) → GoesOnWith r c new u → calls_from u ≤ 1
goes_few {A = A} r c new (turn.Look l n) goes = absurd (no_look A r c new l n goes)
goes_few r c new (turn.Post f) goes = omega arith
goes_few r c new other goes = omega arith

start_few : {A : Type 0} (t new : Tasked) (u : Turn A) → AnswersOwn t new reply.Start u → calls_from u ≤ 2
start_few t new (turn.Look l n) own = omega arith
start_few t new (turn.Post f) own = omega arith
start_few t new other own = omega arith

-- no more calls are made from a turn on than after the reply before it
few_calls : {A : Type 0} (s : State) (r : Request) (v : Verdict) (t new : Tasked) (told : Reply A) (u : Turn A) → AtHand s r v t told → t.request ≡ Some r → AnswersOwn t new told u → Refuses (refusal t told) u → IsCall u → calls_from u ≤ calls_after told
few_calls s r v t new reply.Start u at q own refused call = start_few t new u own
few_calls s r v t new (reply.Looked (Some row)) u at q own refused call = goes_few r row.value.class new u (own r q at.0 at.1 at.2)
few_calls s r v t new (reply.LookedReference (Some e)) u at q own refused call = absurd (no_post_or _ u own call)
few_calls s r v t new (reply.LookedPrepared true) u at q own refused call = absurd (no_post_or _ u (own at.0 at.1 at.3) call)
few_calls s r v t new reply.Memory u at q own refused call = absurd (no_posts rust.TheVariants.Memory u refused call)
few_calls s r v t new other u at q own refused call = absurd at

-- a call on the way is on it
on_way : {A : Type 0} (s : State) (r : Request) (v : Verdict) (t : Tasked) (u : Turn A) → IsCall u → OwnCall s r v t u → OnWay s r v t u
on_way s r v t (turn.Post f) call own = absurd call
on_way s r v t other call own = own

own_way : {A : Type 0} (s : State) (r : Request) (v : Verdict) (t : Tasked) (u : Turn A) → IsCall u → OnWay s r v t u → OwnCall s r v t u
own_way s r v t (turn.Post f) call way = absurd call
own_way s r v t other call way = way

post_or_call : {A : Type 0} (u : Turn A) → ((f : Answered) × (u ≡ turn.Post f)) ⊎ IsCall u
post_or_call (turn.Post f) = inl (f, refl)
post_or_call other = inr tt

-- a turn on the way, by the reply before it
pub near_on : {A : Type 0} (s : State) (r : Request) (v : Verdict) (t new : Tasked) (told : Reply A) (u : Turn A) → AtHand s r v t told → t.request ≡ Some r → AnswersOwn t new told u → Refuses (refusal t told) u → IsNear s r v (calls_after told + 1) new u
near_on {A = A} s r v t new told u at q own refused = elim (post_or_call u) [
  | inl post ↦ (
      let f = post.0 in
      let P : Turn A → Type 0 = λ (w : Turn A). IsNear s r v (calls_after told + 1) new w in
      subst P (sym post.1) (record {
        way = post_says {A = A} s r v t new told f at q
            (subst (λ (w : Turn A). AnswersOwn t new told w) post.1 own)
            (subst (λ (w : Turn A). Refuses (refusal t told) w) post.1 refused);
        calls = omega arith;
      })
      )
  | inr call ↦ record {
    way = on_way s r v new u call (own_call s r v t new told u at q own refused call);
    calls = let few = few_calls s r v t new told u at q own refused call in omega arith;
  }
]

-- no read is asked for on the way
pub no_read : {A : Type 0} (s : State) (r : Request) (v : Verdict) (t new : Tasked) (told : Reply A) (l : ℕ) (n : List ℕ) → AtHand s r v t told → t.request ≡ Some r → AnswersOwn {A = A} t new told (turn.Read l n) → Refuses {A = A} (refusal t told) (turn.Read l n) → ⊥
no_read {A = A} s r v t new told l n at q own refused = own_call {A = A} s r v t new told (turn.Read l n) at q own refused tt

-- ---- from a call to the reply

-- a reply leaves fewer calls than there were
fewer_after : {A : Type 0} (s : State) (r : Request) (v : Verdict) (c : Configured) (t : Tasked) (u : Turn A) (told : Reply A) → OwnCall s r v t u → IsReplyTo c (call_of u) told → calls_after told < calls_from u
fewer_after s r v c t (turn.Look l n) reply.Start own fits = absurd cc
fewer_after s r v c t (turn.Look l n) (reply.Looked row) own fits = omega arith
fewer_after s r v c t (turn.Look l n) other own fits = omega arith
fewer_after s r v c t (turn.LookReference d i) reply.Start own fits = absurd cc
fewer_after s r v c t (turn.LookReference d i) (reply.Looked row) own fits = absurd fits
fewer_after s r v c t (turn.LookReference d i) other own fits = omega arith
fewer_after s r v c t (turn.LookPrepared d) reply.Start own fits = absurd cc
fewer_after s r v c t (turn.LookPrepared d) (reply.Looked row) own fits = absurd fits
fewer_after s r v c t (turn.LookPrepared d) other own fits = omega arith
fewer_after s r v c t other told own fits = absurd own

pub same_request : (x : Shown) (q : ℕ) (a b : Request) → slice_get x.script.requests q ≡ Some a → slice_get x.script.requests q ≡ Some b → a ≡ b
same_request x q a b e f = value_same a b (slice_get x.script.requests q) e f

-- a seat's call was made, and the request went on: it is nearer
pub call_nearer : {A S : Type 0} (told : Option Content) (old new : Shown) (was now : Seat A) (q : ℕ) (more : Reply A) (count later : ℕ) (since source : S) → IsSeatedAt told old was.task was.call q → CallSays told old new was.call more count later since source
    → ((x : Shown) (r : Request) (v : Verdict) → AtHand (state_of x) r v was.task more → was.task.request ≡ Some r → IsNear (state_of x) r v (calls_after more + 1) now.task now.call)
    → ComesNearer by_verdict old new q (Some was) (Some now)
call_nearer told old new was now q more count later since source (k, may, seated) says goes_on = λ r v n asked has near.
    let t = was.task in
    let u = was.call in
    let own = own_way (state_of old) r v t u says.call near.way in
    let same : new ≡ old = own_same (state_of old) r v t old new u own says.did in
    let replied : IsReplied old (call_of u) more = subst (λ (y : Shown). IsReplied y (call_of u) more) same says.replied in
    let at = own_told old r v t u more own has seated.asks replied in
    let one : k ≡ r = same_request old q k r may.asked asked in
    let request : t.request ≡ Some r = request_of_call t u k seated.for_request says.call ∙ ap (λ (m : Request). Some m) one in
    let more_near = goes_on old r v at request in
    let fewer = fewer_after (state_of old) r v old.config t u more own replied.fits in
    let before = near.calls in
    let after = more_near.calls in
    subst (λ (y : Shown). IsNear (state_of y) r v n now.task now.call) (sym same) (record { way = more_near.way; calls = omega arith })

-- the answer of a seat is posted
pub post_known : {A : Type 0} (told : Option Content) (old new : Shown) (seat : Seat A) (f : Answered) (q : ℕ) → IsKept told old → IsSeatedAt told old seat.task seat.call q → seat.call ≡ turn.Post f → new ≡ with_post old q f.answer
    → ComesNearer by_verdict old new q (Some seat) None
post_known {A = A} told old new seat f q kept (k, may, seated) call is = λ r v n asked has near. (
  answer_of f.answer,
  [],
  subst (λ (u : Turn A). OnWay (state_of old) r v seat.task u) call near.way,
  ap steps is ∙ steps_posts old q f.answer (unposted old q kept.trusted may.unanswered) may.unanswered,
)

-- memory ran out before a request was begun
pub memory_known : {A : Type 0} (told : Option Content) (old new : Shown) (q : ℕ) (a : rust.Answer) (before : Option (Seat A)) → IsKept told old → IsOpen old q → a ≡ rust.TheVariants.Memory → new ≡ with_post old q a → ComesNearer by_verdict old new q before None
memory_known told old new q a before kept open_is is posted = λ r v n asked has k. (
  answer_of a,
  [],
  inr (ap answer_of is),
  ap steps posted ∙ steps_posts old q a (unposted old q kept.trusted open_is) open_is,
)

-- ---- later on

own_later : {A : Type 0} (s : State) (es : List Step) (r : Request) (v : Verdict) (t : Tasked) (u : Turn A) → OwnCall s r v t u → OwnCall (state_after s es) r v t u
own_later s es r v t (turn.Look l n) own = own
own_later s es r v t (turn.LookReference c i) own = settled_stay s es c i v own
own_later s es r v t (turn.LookPrepared c) own = (prepared_stay s es c own.0, own.1, own.2)
own_later s es r v t other own = absurd own

way_later : {A : Type 0} (s : State) (es : List Step) (r : Request) (v : Verdict) (t : Tasked) (u : Turn A) → OnWay s r v t u → OnWay (state_after s es) r v t u
way_later s es r v t u way = elim (post_or_call u) [
  | inl post ↦ posted s es r v t u post.0 post.1 way
  | inr call ↦ on_way (state_after s es) r v t u call (own_later s es r v t u (own_way s r v t u call way))
]
  where
    posted : {A : Type 0} (s : State) (es : List Step) (r : Request) (v : Verdict) (t : Tasked) (u : Turn A) (f : Answered) → u ≡ turn.Post f → OnWay s r v t u → OnWay (state_after s es) r v t u
    posted {A = A} s es r v t u f is way = subst (λ (w : Turn A). OnWay (state_after s es) r v t w) (sym is) (subst (λ (w : Turn A). OnWay s r v t w) is way)

has_later : (old new : Shown) (r : plans.Request) (v : Verdict) → GoesOn old new → HasVerdict (state_of old) r v → HasVerdict (state_of new) r v
has_later old new r v goes has = subst (λ (s : State). HasVerdict s r v) (sym (state_later old new goes)) (has_stays (state_of old) goes.made r v has)

-- ---- the measure

pub verdict_measure : {A : Type 0} (told : Option Content) → IsMeasure {A = A} told by_verdict
verdict_measure told = record {
  more = λ s r v few many seat more near. record { way = near.way; calls = let calls = near.calls in omega arith };
  fits = has_later;
  later = λ old new q r v n seat goes seated near. subst (λ (s : State). IsNear s r v n seat.task seat.call) (sym (state_later old new goes))
      (record { way = way_later (state_of old) goes.made r v seat.task seat.call near.way; calls = near.calls });
  once = λ x q r j v seat seated near. none near.calls;
}
  where
    none : {n : ℕ} → n < 0 → ⊥
    none few = omega arith
