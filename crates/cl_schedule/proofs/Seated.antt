-- Requests that take turns: from a reply to the next call, and what the call does, wherever the registry has gone on to (JVMS SE 8, 5.3 to 5.4.3).
use Rattle.std.proofs.Common.{◌≡◌, inl, inr, ◌∙◌, ◌<◌, ◌≤◌, ℕ, List, [], Option, Some, None, refl, sym, ap, subst, arith}
use Rattle.std.specs.Prelude.{slice_get}
use Rattle.cl_config.specs.Loaders.{schedule_of}
use Rattle.cl_config.specs.Views.{Configured, Scripted}
use Rattle.cl_findings.specs.Findings.{Answered}
use Rattle.cl_model.specs.declared.answer.Answer as rust
use Rattle.cl_model.specs.declared.request.Request.{Request}
use Rattle.cl_model.specs.Content.{Content}
use Rattle.cl_model.specs.Machine.{Setting, Step}
use Rattle.cl_model.specs.States.{State}
use Rattle.cl_model.specs.Steps.{IsOfService}
use Rattle.cl_model.proofs.Tables.{trusted_is_consistent}
use Rattle.cl_model.proofs.Bind.{some_same}
use Rattle.cl_registry.specs.declared.registry.RegistryFault.{RegistryFault}
use Rattle.cl_registry.specs.declared.registry.RegistryFault.TheVariants.{Memory, Stray, Violates, AlreadyPosted, NotYet}
use Rattle.cl_registry.specs.References.{Cited, cited_by}
use Rattle.cl_registry.specs.Refusals.{PostRefusedFor}
use Rattle.cl_registry.specs.Tables.{Shown, IsAsked, IsKept, RunsAs, state_of, steps, with_post, machine}
use Rattle.cl_registry.specs.Posting.{MayPostUnder}
use Rattle.cl_tasks.specs.Facts.{Holds}
use Rattle.cl_tasks.specs.Measures.{all_left}
use Rattle.cl_tasks.specs.Follows.{AreLeft, Backed, FollowsWhere, Tells, ReplyTells, Unrecorded}
use Rattle.cl_tasks.specs.Tasks.{Tasked, begun_task}
use Rattle.cl_tasks.specs.Turns.{Asks, Expects, IsReplyTo, KeepsRequest, call_of}
use Rattle.cl_tasks.specs.Waits.{Waits, Reading, Settling}
use Rattle.cl_tasks.specs.declared.turn.Reply.{Reply}
use Rattle.cl_tasks.specs.declared.turn.Reply.TheVariants as reply
use Rattle.cl_tasks.specs.declared.turn.Turn.{Turn}
use Rattle.cl_tasks.specs.declared.turn.Turn.TheVariants as turn
use Rattle.cl_schedule.specs.Replies.{CallSays, Did, IsCall, AsksForRead, IsReplied, IsStepOf}
use Rattle.cl_schedule.specs.Seats.{FollowsIn, GoesOn, HasAdvanced, HasPosted, IsAfter, IsCitedFor, TurnIsFor, TaskIsReady, IsSeated, IsSeatedAt, NextIn, PostsIn}
use Rattle.cl_schedule.specs.Serving.{GoesBy}
use Rattle.cl_schedule.proofs.Blaming.{blames_here}
use Rattle.cl_schedule.proofs.Backing.{call_backed_later, cited_later, post_backed_later}
use Rattle.cl_schedule.proofs.Later.{goes_on_did, goes_on_none, holds_later}
use Rattle.cl_schedule.proofs.Next.{next_of, step_of_call, step_within}
use Rattle.cl_schedule.proofs.Served.{last_may, may_end}
use Rattle.cl_schedule.proofs.States.{same_machine, state_goes}
use Rattle.cl_schedule.proofs.Telling.{tells_later}
use Rattle.cl_schedule.proofs.Steps.{TurnSays, of_request, served_in, unrecorded_of}

pub after_none : (told : Option Content) (x : Shown) → IsKept told x → IsAfter told x x
after_none told x kept = record { goes = goes_on_none x; kept = kept }

-- ---- a reply

-- a reply to a call is one to the task that asked for it
pub expects_reply : {A : Type 0} (x : Shown) (t : Tasked) (u : Turn A) (more : Reply A) → t.config ≡ x.config → Asks t u → IsReplied x (call_of u) more → Expects t more
expects_reply {A = A} x t u more config asks replied =
    subst (λ (w : Waits). IsReplyTo t.config w more) (sym asks)
    (subst (λ (c : Configured). IsReplyTo {A = A} c (call_of u) more) (sym config) replied.fits)

-- what a task was told before a call, and by the reply
ready_told : {A : Type 0} (told : Option Content) (x : Shown) (r : Request) (t : Tasked) (u : Turn A) (more : Reply A) → IsKept told x → t.config ≡ x.config → t.request ≡ Some r → t.left ≤ all_left → Asks t u → Holds x t → IsReplied x (call_of u) more → IsCitedFor x (call_of u) more
    → TaskIsReady told x t more r
ready_told told x r t u more kept config request few asks held replied cited = record {
  kept = kept;
  config = config;
  request = request;
  few = few;
  tells = record {
    told = record { before = held; now = subst (λ (w : Waits). ReplyTells x w more) (sym asks) replied.tells };
    unrecorded = subst (λ (w : Waits). Unrecorded x w more) (sym asks) (unrecorded_of x (call_of u) more replied.shows);
  };
  cited = subst (λ (w : Waits). IsCitedFor x w more) (sym asks) cited;
}

-- after a read the same registry goes on
pub ready_on : {A : Type 0} (told : Option Content) (x : Shown) (r : Request) (t next : Tasked) (given more : Reply A) (l : ℕ) (n : List ℕ) → TaskIsReady told x t given r → TurnSays told t next given (turn.Read l n) → next.left < t.left → IsReplied x (Reading l n) more
    → TaskIsReady told x next more r
ready_on told x r t next given more l n ready says less replied =
    let few = ready.few in
    ready_told told x r next (turn.Read l n) more ready.kept (says.config ∙ ready.config) (says.serves ∙ ready.request) (omega arith) says.asks (says.keeps x ready.tells.told) replied tt

-- a request that begins
pub ready_begun : {A : Type 0} (told : Option Content) (x : Shown) (c : Configured) (q : ℕ) (r : Request) (t : Tasked) → IsKept told x → x.config ≡ c → t ≡ begun_task c q r → TaskIsReady {A = A} told x t reply.Start r
ready_begun {A = A} told x c q r t kept config is =
    subst (λ (k : Tasked). TaskIsReady {A = A} told x k reply.Start r) (sym is) (record {
      kept = kept;
      config = sym config;
      request = refl;
      few = none_more all_left;
      tells = record { told = record { before = record { frames = tt; facts = tt }; now = tt }; unrecorded = tt };
      cited = tt;
    })
  where
    none_more : (n : ℕ) → n ≤ n
    none_more n = omega arith

-- ---- a turn

-- a turn is for the request of its task
is_for : {A : Type 0} (t next : Tasked) (u : Turn A) (r : Request) → KeepsRequest t next u → t.request ≡ Some r → TurnIsFor next u r
is_for t next (turn.Settle f) r serves is = (some_same f.request r (sym serves.0 ∙ is), serves.1 ∙ is)
is_for t next (turn.Post f) r serves is = some_same f.request r (sym serves ∙ is)
is_for t next other r serves is = serves ∙ is

-- what is posted is borne wherever the registry goes on to, where a content is told
posts_later : {A : Type 0} (told : Option Content) (x y : Shown) (q : ℕ) (r : Request) (u : Turn A) → IsAfter told x y → FollowsIn told y r u → Backed x u → (t : Tasked) → TurnIsFor t u r → PostsIn told y q r u
posts_later told x y q r (turn.Post f) after follows backed t is = λ content e may.
    post_backed_later content x y r f (subst (λ (o : Option Content). IsAfter o x y) e after) (follows content e) is backed
posts_later told x y q r other after follows backed t is = tt

-- after a turn the request waits with what is asked
pub seated_on : {A : Type 0} (told : Option Content) (x : Shown) (q : ℕ) (r : Request) (t next : Tasked) (given : Reply A) (u : Turn A) → TaskIsReady told x t given r → TurnSays told t next given u → next.left < t.left → (AsksForRead u → ⊥) → AreLeft next.calls → IsSeated told x next u q r
seated_on told x q r t next given u ready says less unread more =
    let few = ready.few in
    let here : Backed x u = says.backed x (sym ready.config) ready.kept.named (trusted_is_consistent (schedule_of x.script) x.script.rounds (steps x) ready.kept.trusted.tables) ready.tells in
    let is : TurnIsFor next u r = is_for t next u r says.serves ready.request in
    record {
      config = says.config ∙ ready.config;
      asks = says.asks;
      for_request = is;
      few = omega arith;
      unread = unread;
      more = more;
      holds = λ y after. holds_later told x y next after (says.keeps x ready.tells.told);
      backed = λ y after call. call_backed_later told x y u ready.kept after call here;
      follows = λ y after. follows_there y after;
      posts = λ y after. posts_later told x y q r u after (follows_there y after) here next is;
      blames = blames_here told x r t given u ready.kept (sym ready.config) ready.request ready.tells.told says.blames;
    }
  where
    follows_there : (y : Shown) → IsAfter told x y → FollowsIn told y r u
    follows_there y after content e =
        of_request t.request r (λ (r : Request). FollowsWhere told t.config (λ s. Tells s t given) r u) ready.request says.next (machine y content) y
        (served_in told y t.config content e after.kept (after.goes.config ∙ sym ready.config)) (tells_later told x y t given after ready.cited ready.tells.told)

-- ---- the call of a request that waits

-- the call may be made here
pub seated_backed : {A : Type 0} (told : Option Content) (x : Shown) (t : Tasked) (u : Turn A) (q : ℕ) → IsKept told x → IsSeatedAt told x t u q → IsCall u → Backed x u
seated_backed told x t u q kept (r, may, seated) call = seated.backed x (after_none told x kept) call

serves_self : {A : Type 0} (t : Tasked) (u : Turn A) (r : Request) → TurnIsFor t u r → IsCall u → KeepsRequest t t u
serves_self t (turn.Settle f) r is call = (is.1 ∙ ap (λ (k : Request). Some k) (sym is.0), refl)
serves_self t (turn.Post f) r is call = absurd call
serves_self t other r is call = refl

pub request_of_call : {A : Type 0} (t : Tasked) (u : Turn A) (r : Request) → TurnIsFor t u r → IsCall u → t.request ≡ Some r
request_of_call t (turn.Settle f) r is call = is.1
request_of_call t (turn.Post f) r is call = absurd call
request_of_call t other r is call = is

-- the step of the call is the next one of the request's service
next_in : {A : Type 0} (told : Option Content) (old new : Shown) (r : Request) (q : ℕ) (t : Tasked) (u : Turn A) (e : Step) → IsKept told old → IsKept told new → IsSeated told old t u q r → IsCall u → IsStepOf old u e → GoesBy old new e → NextIn told old r e
next_in told old new r q t u e kept_old kept seated call is goes = λ content is_told.
    let g : Setting = machine old content in
    next_of g old r t t u e (seated.follows old (after_none told old kept_old) content is_told) (serves_self t u r seated.for_request call) (request_of_call t u r seated.for_request call) is
    (last_may content old new g e (subst (λ (o : Option Content). RunsAs o new) is_told kept.run) (same_machine old new content goes.config goes.script) goes.step)

did_next : {A : Type 0} (told : Option Content) (old new : Shown) (r : Request) (q : ℕ) (t : Tasked) (u : Turn A) → IsKept told old → IsKept told new → IsSeated told old t u q r → IsCall u → Did old new (IsStepOf old u) → Did old new (λ e. IsOfService e × NextIn told old r e)
did_next told old new r q t u kept_old kept seated call (inl same) = inl same
did_next told old new r q t u kept_old kept seated call (inr did) = inr (did.0, (step_of_call old u did.0 did.1, next_in told old new r q t u did.0 kept_old kept seated call did.1 did.2), did.2)

pub has_advanced : {A S : Type 0} (told : Option Content) (old new : Shown) (t : Tasked) (u : Turn A) (q : ℕ) (more : Reply A) (count later : ℕ) (since source : S) → IsKept told old → IsSeatedAt told old t u q → CallSays told old new u more count later since source → HasAdvanced told old new q
has_advanced told old new t u q more count later since source kept (r, may, seated) says = record {
  request = r;
  asked = may.asked;
  did = did_next told old new r q t u kept says.kept seated says.call says.did;
}

pub after_call : {A S : Type 0} (told : Option Content) (old new : Shown) (u : Turn A) (more : Reply A) (count later : ℕ) (since source : S) → CallSays told old new u more count later since source → IsAfter told old new
after_call told old new u more count later since source says = record { goes = goes_on_did old new (IsStepOf old u) says.did; kept = says.kept }

-- the reply is one to the task
pub seated_expects : {A S : Type 0} (told : Option Content) (old new : Shown) (t : Tasked) (u : Turn A) (q : ℕ) (more : Reply A) (count later : ℕ) (since source : S) → IsSeatedAt told old t u q → CallSays told old new u more count later since source → Expects t more
seated_expects told old new t u q more count later since source (r, may, seated) says =
    let after = after_call told old new u more count later since source says in
    expects_reply new t u more (seated.config ∙ sym after.goes.config) seated.asks says.replied

-- what a call leaves of who may be posted
may_stay : {A : Type 0} (old new : Shown) (u : Turn A) (q : ℕ) (r : Request) → Did old new (IsStepOf old u) → MayPostUnder old q r → MayPostUnder new q r
may_stay old new u q r (inl same) may = subst (λ (y : Shown). MayPostUnder y q r) (sym same) may
may_stay old new u q r (inr (e, is, goes)) may = record {
  asked = ap (λ (s : Scripted). slice_get s.requests q) goes.script ∙ may.asked;
  begun = λ late. may.begun (record {
    round = late.round;
    of = ap (λ (s : Scripted). slice_get s.rounds_of q) (sym goes.script) ∙ late.of;
    later = subst (λ (n : ℕ). n < late.round) (ap (λ (s : State). s.round) (state_goes old new e goes) ∙ (step_within (state_of old) e (step_of_call old u e is)).0) late.later;
  });
  unanswered = ap (λ (xs : List (Option rust.Answer)). slice_get xs q) goes.answers ∙ may.unanswered;
}

-- what is settled is cited by a class that is recorded
cited_settling : {A : Type 0} (x : Shown) (r : Request) (more : Reply A) → ((e : Cited) × (cited_by x r ≡ Some e)) → IsCitedFor x (Settling r) more
cited_settling x r (reply.Settled s) at = at
cited_settling x r other at = tt

cited_after : {A : Type 0} (old new : Shown) (u : Turn A) (more : Reply A) → GoesOn old new → Backed old u → IsCitedFor new (call_of u) more
cited_after old new (turn.Settle f) more h (s, is) = cited_settling new f.request more (record { class = s.class; index = s.index }, cited_later old new f.request (record { class = s.class; index = s.index }) h is.cited)
cited_after old new other more h backed = tt

-- what a task was told before a call that was made, and by its reply, holds behind it
pub ready_again : {A S : Type 0} (told : Option Content) (old new : Shown) (t : Tasked) (u : Turn A) (q : ℕ) (r : Request) (more : Reply A) (count later : ℕ) (since source : S) → IsKept told old → IsSeated told old t u q r → CallSays told old new u more count later since source → TaskIsReady told new t more r
ready_again told old new t u q r more count later since source kept seated says =
    let after = after_call told old new u more count later since source says in
    ready_told told new r t u more says.kept (seated.config ∙ sym after.goes.config) (request_of_call t u r seated.for_request says.call) seated.few seated.asks (seated.holds new after) says.replied (cited_after old new u more after.goes (seated.backed old (after_none told old kept) says.call))

-- it waits again after the call and what follows it
pub seated_again : {A S : Type 0} (told : Option Content) (old new : Shown) (t next : Tasked) (u w : Turn A) (q : ℕ) (more : Reply A) (count later : ℕ) (since source : S) → IsKept told old → IsSeatedAt told old t u q → CallSays told old new u more count later since source
    → ((x : Shown) (q : ℕ) (r : Request) → TaskIsReady told x t more r → IsSeated told x next w q r) → IsSeatedAt told new next w q
seated_again told old new t next u w q more count later since source kept (r, may, seated) says goes_on = (
  r,
  may_stay old new u q r says.did may,
  goes_on new q r (ready_again told old new t u q r more count later since source kept seated says),
)

-- ---- the post of a request that waits

pub has_posted : {A : Type 0} (told : Option Content) (old new : Shown) (t : Tasked) (f : Answered) (q : ℕ) → IsKept told old → IsSeatedAt {A = A} told old t (turn.Post f) q → new ≡ with_post old q f.answer → HasPosted told old new q
has_posted told old new t f q kept (r, may, seated) is = record {
  request = r;
  asked = may.asked;
  unanswered = may.unanswered;
  answer = f.answer;
  posted = is;
  ends = λ content e. may_end (machine old content) (state_of old) r f.answer (seated.follows old (after_none told old kept) content e);
  blames = seated.blames;
}

-- an answer that is refused is a stray, and no content is told
pub post_refused : {A : Type 0} (told : Option Content) (old : Shown) (t : Tasked) (f : Answered) (q : ℕ) (fault : RegistryFault) → IsKept told old → IsSeatedAt {A = A} told old t (turn.Post f) q → PostRefusedFor old q f fault → told ≡ None
post_refused None old t f q fault kept at refused = refl
post_refused (Some content) old t f q fault kept (r, may, seated) refused = absurd (never fault refused)
  where
    asked : IsAsked old q f
    asked = may.asked ∙ ap (λ (k : Request). Some k) (sym seated.for_request)

    never : (fault : RegistryFault) → PostRefusedFor old q f fault → ⊥
    never Memory refused = refused
    never Stray (inl stray) = stray asked
    never Stray (inr stray) = stray.1 (seated.posts old (after_none (Some content) old kept) content refl may)
    never (Violates n) refused = refused
    never AlreadyPosted refused = refused.2 may.unanswered
    never NotYet refused = may.begun refused.1

-- ---- reads

-- a registry with nothing in it, under a configuration
abbrev bare_of : Configured → Shown
bare_of c = record { config = c; script = record { requests = []; rounds_of = []; rounds = 0 }; rows = []; history = []; answers = [] }

-- a reply to a read is one to the task that asked for it
pub expects_read : {A : Type 0} (t : Tasked) (u : Turn A) (more : Reply A) → Asks t u → ((x : Shown) → IsReplied x (call_of u) more) → Expects t more
expects_read t u more asks replied = expects_reply (bare_of t.config) t u more refl asks (replied (bare_of t.config))
