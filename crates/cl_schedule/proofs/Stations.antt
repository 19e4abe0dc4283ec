-- How a request goes whose verdict the tables have: one or two looks, and the post (JVMS SE 8, 5.3, 5.4.2, 5.4.3).
use Rattle.std.proofs.Common.{◌≡◌, ◌⊎◌, inl, inr, ◌∙◌, ℕ, true, false, List, [], Some, None, refl, sym, ap, subst}
use Rattle.std.specs.Prelude.{Contains}
use Rattle.cl_model.specs.declared.answer.Answer as rust
use Rattle.cl_model.specs.declared.class.Class.{Class}
use Rattle.cl_model.specs.declared.request.Request.{Request}
use Rattle.cl_model.specs.declared.request.Request.TheVariants as requests
use Rattle.cl_model.specs.declared.verdict.Verdict.TheVariants as verdicts
use Rattle.cl_model.specs.States.{State, Verdict, Said, IsClass, IsLinked, recorded_definer, settled_to}
use Rattle.cl_model.specs.Views.{answer_of, request_of, verdict_of}
use Rattle.cl_hierarchy.specs.Rows.{Rowed}
use Rattle.cl_findings.specs.Findings.{Answered, loader_of, name_of}
use Rattle.cl_registry.specs.Tables.{Shown, records_of, state_of, with_post}
use Rattle.cl_registry.proofs.Bearing.{one_class}
use Rattle.cl_tasks.specs.Facts.{IsRecordedAs}
use Rattle.cl_tasks.specs.Follows.{Posts, Refuses, refusal}
use Rattle.cl_tasks.specs.Tasks.{Tasked}
use Rattle.cl_tasks.specs.Turns.{AnswersOwn, GoesOnWith, KnowsOne, PostsOr, call_of}
use Rattle.cl_tasks.specs.Waits.{Waits, Looking, LookingReference, LookingPrepared}
use Rattle.cl_tasks.specs.declared.turn.Reply.{Reply}
use Rattle.cl_tasks.specs.declared.turn.Reply.TheVariants as reply
use Rattle.cl_tasks.specs.declared.turn.Turn.{Turn}
use Rattle.cl_tasks.specs.declared.turn.Turn.TheVariants as turn
use Rattle.cl_schedule.specs.Known.{HasVerdict, HasOf, SaysOrLacks, TellsKnown}
use Rattle.cl_schedule.specs.Nearing.{AtHand, OwnCall}
use Rattle.cl_schedule.specs.Replies.{Did, IsCall, AsksForRead, IsReplied, IsStepOf}
use Rattle.cl_schedule.proofs.Places.{some_none}
use Rattle.cl_tasks.proofs.Lacking.{posts_or}
use Rattle.cl_model.proofs.Bind.{some_same}
use Rattle.std.proofs.lemmas.Option.{none-some}

-- ---- turns

pub no_post_or : {A : Type 0} (a : rust.Answer) (u : Turn A) → PostsOr a u → IsCall u → ⊥
no_post_or a (turn.Post f) p call = call
no_post_or a other p call = p

pub no_posts : {A : Type 0} (a : rust.Answer) (u : Turn A) → Posts a u → IsCall u → ⊥
no_posts a u p call = no_post_or a u (posts_or a u p) call

-- ---- stations

has_of : (x : Shown) (r : Request) (v : Verdict) (row : Rowed) → HasVerdict (state_of x) (request_of r) v → IsRecordedAs x (loader_of r) (name_of r) row → HasOf (state_of x) (request_of r) row.class v
has_of x (requests.Load loader name) v row h k = h.2 ∙ ap (λ (c : Class). IsClass c) (one_class (state_of x) loader name h.0 row.class h.1 k.records)
has_of x (requests.Resolve loader name i) v row h k =
    subst (λ (c : Class). settled_to (state_of x).settled c i ≡ Some v) (one_class (state_of x) loader name h.0 row.class h.1 k.records) h.2
has_of x (requests.Link loader name) v row h k =
    let same = one_class (state_of x) loader name h.0 row.class h.1 k.records in
    (subst (λ (c : Class). Contains (state_of x).prepared c) same h.2.0, h.2.1 ∙ ap (λ (c : Class). IsLinked c) same)

has_record : (s : State) (r : Request) (v : Verdict) → HasVerdict s (request_of r) v → (place : ℕ) × (recorded_definer s.records (loader_of r) (name_of r) ≡ Some place)
has_record s (requests.Load loader name) v h = (h.0.loader, h.1.1)
has_record s (requests.Resolve loader name i) v h = (h.0.loader, h.1.1)
has_record s (requests.Link loader name) v h = (h.0.loader, h.1.1)

-- ---- from a reply to the call

goes_call : {A : Type 0} (s : State) (r : Request) (c : Class) (v : Verdict) (new : Tasked) (u : Turn A) → HasOf s (request_of r) c v → GoesOnWith r c new u → IsCall u → OwnCall s r v new u
goes_call s (requests.Load loader name) c v new u has goes call = absurd (no_post_or (rust.TheVariants.Said (verdicts.Class c)) u goes call)
goes_call s (requests.Resolve loader name i) c v new (turn.LookReference d j) has goes call =
    subst (λ (k : ℕ). settled_to s.settled d k ≡ Some v) (sym goes.1) (subst (λ (k : Class). settled_to s.settled k i ≡ Some v) (sym goes.0) has)
goes_call s (requests.Resolve loader name i) c v new (turn.Post f) has goes call = absurd call
goes_call s (requests.Link loader name) c v new (turn.LookPrepared d) has goes call =
    (subst (λ (k : Class). Contains s.prepared k) (sym goes.0) has.0, has.1 ∙ ap (λ (k : Class). IsLinked k) (sym goes.0), goes.1)
goes_call s (requests.Link loader name) c v new (turn.Post f) has goes call = absurd call
goes_call s other c v new another has goes call = absurd goes

pub own_call : {A : Type 0} (s : State) (r : Request) (v : Verdict) (t new : Tasked) (told : Reply A) (u : Turn A) → AtHand s r v t told → t.request ≡ Some r → AnswersOwn t new told u → Refuses (refusal t told) u → IsCall u → OwnCall s r v new u
own_call s r v t new reply.Start (turn.Look l n) at q own refused call = let asked = own.2 r q in (own.0, own.1, asked.0, asked.1)
own_call s r v t new reply.Start (turn.Post f) at q own refused call = absurd call
own_call s r v t new reply.Start u at q own refused call = absurd own
own_call s r v t new (reply.Looked (Some row)) u at q own refused call = goes_call s r row.value.class v new u at.3 (own r q at.0 at.1 at.2) call
own_call s r v t new (reply.LookedReference (Some e)) u at q own refused call = absurd (no_post_or (rust.TheVariants.Shared e) u own call)
own_call s r v t new (reply.LookedPrepared true) u at q own refused call = absurd (no_post_or (rust.TheVariants.Said (verdicts.Linked at.0)) u (own at.0 at.1 at.3) call)
own_call s r v t new reply.Memory u at q own refused call = absurd (no_posts rust.TheVariants.Memory u refused call)
own_call s r v t new other u at q own refused call = absurd at

-- ---- from a call to the reply

look_told : {A : Type 0} (x : Shown) (r : Request) (v : Verdict) (t : Tasked) (told : Reply A) → HasVerdict (state_of x) (request_of r) v → IsReplied x (Looking (loader_of r) (name_of r)) told → t.waits ≡ Looking (loader_of r) (name_of r) → t.frames ≡ [] → t.facts ≡ [] → AtHand (state_of x) r v t told
look_told x r v t reply.Start has is waits frames facts = tt
look_told x r v t (reply.Looked None) has is waits frames facts = let k = has_record (state_of x) r v has in absurd (some_none (recorded_definer (records_of x) (loader_of r) (name_of r)) k.0 k.1 is.shows)
look_told x r v t (reply.Looked (Some row)) has is waits frames facts = (waits, frames, facts, has_of x r v row.value has is.tells)
look_told x r v t (reply.LookedReference o) has is waits frames facts = absurd is.fits
look_told x r v t (reply.LookedPrepared b) has is waits frames facts = absurd is.fits
look_told x r v t (reply.Refused n) has is waits frames facts = absurd (none-some _ is.fits)
look_told x r v t reply.Memory has is waits frames facts = tt
look_told x r v t other has is waits frames facts = is.fits

reference_told : {A : Type 0} (x : Shown) (r : Request) (v : Verdict) (t : Tasked) (told : Reply A) (c : Class) (i : ℕ) → settled_to (state_of x).settled c i ≡ Some v → IsReplied x (LookingReference c i) told → AtHand (state_of x) r v t told
reference_told x r v t reply.Start c i has is = tt
reference_told x r v t (reply.Looked o) c i has is = absurd is.fits
reference_told x r v t (reply.LookedReference None) c i has is = absurd (some_none (settled_to (state_of x).settled c i) v has is.shows)
reference_told x r v t (reply.LookedReference (Some e)) c i has is = some_same (verdict_of e.value.verdict) v (sym is.tells.verdict ∙ has)
reference_told x r v t (reply.LookedPrepared b) c i has is = absurd is.fits
reference_told x r v t (reply.Refused n) c i has is = absurd (none-some _ is.fits)
reference_told x r v t reply.Memory c i has is = tt
reference_told x r v t other c i has is = is.fits

prepared_told : {A : Type 0} (x : Shown) (r : Request) (v : Verdict) (t : Tasked) (told : Reply A) (c : Class) → Contains (state_of x).prepared c → v ≡ IsLinked c → KnowsOne t → t.waits ≡ LookingPrepared c → IsReplied x (LookingPrepared c) told → AtHand (state_of x) r v t told
prepared_told x r v t reply.Start c has linked knows waits is = tt
prepared_told x r v t (reply.Looked o) c has linked knows waits is = absurd is.fits
prepared_told x r v t (reply.LookedReference o) c has linked knows waits is = absurd is.fits
prepared_told x r v t (reply.LookedPrepared true) c has linked knows waits is = (c, waits, linked, knows)
prepared_told x r v t (reply.LookedPrepared false) c has linked knows waits is = absurd (is.shows has)
prepared_told x r v t (reply.Refused n) c has linked knows waits is = absurd (none-some _ is.fits)
prepared_told x r v t reply.Memory c has linked knows waits is = tt
prepared_told x r v t other c has linked knows waits is = is.fits

-- ---- all the way

-- nothing happened yet, and the task is on its way
pub record Standing {A S : Type 0} (old now : Shown) (r : Request) (v : Verdict) (t : Tasked) (told : Reply A) (source since : S) : Type 0 where
  pub same : now ≡ old
  pub unread : since ≡ source
  pub at : AtHand (state_of old) r v t told

-- and so for each verdict that the tables have
abbrev pub Known : {A S : Type 0} → Shown → Shown → Request → Tasked → Reply A → S → S → Type 0
Known old now r t told source since = (v : Verdict) → HasVerdict (state_of old) (request_of r) v → Standing old now r v t told source since

pub known_start : {A S : Type 0} (old : Shown) (r : Request) (t : Tasked) (source : S) → Known {A = A} old old r t reply.Start source source
known_start old r t source = λ v has. record { same = refl; unread = refl; at = tt }

-- the call on that way changes nothing
pub own_same : {A : Type 0} (s : State) (r : Request) (v : Verdict) (new : Tasked) (x y : Shown) (u : Turn A) → OwnCall s r v new u → Did x y (IsStepOf x u) → y ≡ x
own_same s r v new x y u own (inl same) = same
own_same s r v new x y (turn.Define d) own (inr did) = absurd own
own_same s r v new x y (turn.Initiate h) own (inr did) = absurd own
own_same s r v new x y (turn.Settle f) own (inr did) = absurd own
own_same s r v new x y (turn.Impose l k) own (inr did) = absurd own
own_same s r v new x y (turn.Mark l) own (inr did) = absurd own
own_same s r v new x y other own (inr did) = absurd did.1

own_unread : {A : Type 0} (s : State) (r : Request) (v : Verdict) (new : Tasked) (u : Turn A) → OwnCall s r v new u → AsksForRead u → ⊥
own_unread s r v new (turn.Read l n) own read = own
own_unread s r v new other own read = read

pub own_told : {A : Type 0} (x : Shown) (r : Request) (v : Verdict) (new : Tasked) (u : Turn A) (told : Reply A) → OwnCall (state_of x) r v new u → HasVerdict (state_of x) (request_of r) v → new.waits ≡ call_of u → IsReplied x (call_of u) told → AtHand (state_of x) r v new told
own_told x r v new (turn.Look l n) told own has asks is =
    let w : Looking l n ≡ Looking (loader_of r) (name_of r) = rw (own.2, own.3) refl in
    look_told x r v new told has (subst (λ (k : Waits). IsReplied x k told) w is) (asks ∙ w) own.0 own.1
own_told x r v new (turn.LookReference c i) told own has asks is = reference_told x r v new told c i own is
own_told x r v new (turn.LookPrepared c) told own has asks is = prepared_told x r v new told c own.0 own.1 own.2 asks is
own_told x r v new other told own has asks is = absurd own

-- after one call more
pub known_on : {A S : Type 0} (old x y : Shown) (r : Request) (t new : Tasked) (told next : Reply A) (u : Turn A) (source since later : S) → Known old x r t told source since → t.request ≡ Some r → AnswersOwn t new told u → Refuses (refusal t told) u → IsCall u
    → new.waits ≡ call_of u → Did x y (IsStepOf x u) → IsReplied y (call_of u) next → ((AsksForRead u → ⊥) → later ≡ since) → Known old y r new next source later
known_on old x y r t new told next u source since later known q own refused call asks did is unread = λ v has.
    let k = known v has in
    let c = own_call (state_of old) r v t new told u k.at q own refused call in
    let same : y ≡ old = own_same (state_of old) r v new x y u c did ∙ k.same in
    record {
      same = same;
      unread = unread (own_unread (state_of old) r v new u c) ∙ k.unread;
      at = own_told old r v new u next c has asks (subst (λ (z : Shown). IsReplied z (call_of u) next) same is);
    }

-- ---- the post

says : (v : Verdict) (f a : rust.Answer) → answer_of a ≡ Said v → (f ≡ a) ⊎ (f ≡ rust.TheVariants.Memory) → SaysOrLacks v (answer_of f)
says v f a is (inl e) = inl (ap answer_of e ∙ is)
says v f a is (inr e) = inr (ap answer_of e)

class_says : (s : State) (r : Request) (c : Class) (v : Verdict) (A : Type 0) (new : Tasked) (f : Answered) → HasOf s (request_of r) c v → GoesOnWith {A = A} r c new (turn.Post f) → SaysOrLacks v (answer_of f.answer)
class_says s (requests.Load loader name) c v A new f has goes = says v f.answer (rust.TheVariants.Said (verdicts.Class c)) (ap (λ (k : Verdict). Said k) (sym has)) goes
class_says s (requests.Resolve loader name i) c v A new f has goes = inr (ap answer_of goes)
class_says s (requests.Link loader name) c v A new f has goes = inr (ap answer_of goes)

pub post_says : {A : Type 0} (s : State) (r : Request) (v : Verdict) (t new : Tasked) (told : Reply A) (f : Answered) → AtHand s r v t told → t.request ≡ Some r → AnswersOwn {A = A} t new told (turn.Post f) → Refuses {A = A} (refusal t told) (turn.Post f) → SaysOrLacks v (answer_of f.answer)
post_says s r v t new reply.Start f at q own refused = inr (ap answer_of own)
post_says {A = A} s r v t new (reply.Looked (Some row)) f at q own refused = class_says s r row.value.class v A new f at.3 (own r q at.0 at.1 at.2)
post_says s r v t new (reply.LookedReference (Some e)) f at q own refused = says v f.answer (rust.TheVariants.Shared e) (ap (λ (k : Verdict). Said k) at) own
post_says s r v t new (reply.LookedPrepared true) f at q own refused = says v f.answer (rust.TheVariants.Said (verdicts.Linked at.0)) (ap (λ (k : Verdict). Said k) (sym at.2)) (own at.0 at.1 at.3)
post_says s r v t new reply.Memory f at q own refused = inr (ap answer_of refused)
post_says s r v t new other f at q own refused = absurd at

pub known_post : {A S : Type 0} (old x y : Shown) (q : ℕ) (r : Request) (t new : Tasked) (told : Reply A) (f : Answered) (source since : S) → Known old x r t told source since → t.request ≡ Some r → AnswersOwn {A = A} t new told (turn.Post f) → Refuses {A = A} (refusal t told) (turn.Post f)
    → y ≡ with_post x q f.answer → TellsKnown old y q r source since
known_post old x y q r t new told f source since known request own refused posted = λ v has.
    let k = known v has in
    record {
      answer = f.answer;
      is = post_says (state_of old) r v t new told f k.at request own refused;
      posted = posted ∙ ap (λ (z : Shown). with_post z q f.answer) k.same;
      unread = k.unread;
    }

-- memory ran out before the first turn
pub known_memory : {S : Type 0} (old new : Shown) (q : ℕ) (r : Request) (a : rust.Answer) (source : S) → a ≡ rust.TheVariants.Memory → new ≡ with_post old q a → TellsKnown old new q r source source
known_memory old new q r a source is posted = λ v has. record { answer = a; is = inr (ap answer_of is); posted = posted; unread = refl }
