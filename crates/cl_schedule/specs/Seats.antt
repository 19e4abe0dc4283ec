-- A request that was begun and waits for its next turn, and who waits of a script (JVMS SE 8, 5.3 to 5.4.3).
use Rattle.std.specs.Prelude.{◌≡◌, ◌+◌, ◌<◌, ◌≤◌, ℕ, List, ◌++◌, length, Option, Some, slice_get}
use Rattle.std.specs.List.{range_with_len}
use Rattle.cl_config.specs.Loaders.{schedule_of}
use Rattle.cl_config.specs.Views.{Scripted}
use Rattle.cl_hierarchy.specs.Rows.{Rowed}
use Rattle.cl_model.specs.declared.answer.Answer.{Answer}
use Rattle.cl_model.specs.declared.event.Event.{Event}
use Rattle.cl_model.specs.declared.request.Request.{Request}
use Rattle.cl_model.specs.Content.{Content}
use Rattle.cl_model.specs.Machine.{Step}
use Rattle.cl_model.specs.Service.{IsNextStep, MayEnd}
use Rattle.cl_model.specs.Views.{answer_of, request_of}
use Rattle.cl_model.specs.Steps.{IsOfService}
use Rattle.cl_registry.specs.Posting.{IsBacked, MayPostUnder}
use Rattle.cl_registry.specs.References.{Cited, cited_by}
use Rattle.cl_registry.specs.Tables.{Shown, IsKept, IsLater, IsOpen, state_of, steps, with_post, machine}
use Rattle.cl_tasks.specs.Blames.{AnswerBlames, TurnBlames}
use Rattle.cl_tasks.specs.Facts.{Holds}
use Rattle.cl_tasks.specs.Follows.{AreLeft, Backed, Follows, TellsNow}
use Rattle.cl_tasks.specs.Measures.{all_left}
use Rattle.cl_tasks.specs.Tasks.{Tasked}
use Rattle.cl_tasks.specs.Turns.{Asks}
use Rattle.cl_tasks.specs.Waits.{Waits, Settling}
use Rattle.cl_tasks.specs.declared.turn.Reply.{Reply}
use Rattle.cl_tasks.specs.declared.turn.Reply.TheVariants as reply
use Rattle.cl_tasks.specs.declared.turn.Turn.{Turn}
use Rattle.cl_tasks.specs.declared.turn.Turn.TheVariants as turn
use Rattle.cl_schedule.specs.Blames.{IsAskedFor}
use Rattle.cl_schedule.specs.Choices.{waiting_requests}
use Rattle.cl_schedule.specs.Replies.{Did, IsCall, AsksForRead}

-- ---- a registry later on

-- a registry went on by some steps: rows may be added, and answers (5.3 to 5.4.3)
pub record GoesOn (old new : Shown) : Type 0 where
  pub config : new.config ≡ old.config
  pub script : new.script ≡ old.script
  pub more : List Rowed
  pub rows : new.rows ≡ old.rows ++ more
  pub events : List Event
  pub history : new.history ≡ old.history ++ events
  pub made : List Step
  pub steps_more : steps new ≡ steps old ++ made

-- it did so, and holds what each registry does (5.3 to 5.4.3)
pub record IsAfter (told : Option Content) (old new : Shown) : Type 0 where
  pub goes : GoesOn old new
  pub kept : IsKept told new

-- ---- seats

-- a call is one for a request, and so is what is posted
abbrev pub TurnIsFor : {A : Type 0} → Tasked → Turn A → Request → Type 0
TurnIsFor t (turn.Post f) r = f.request ≡ r
TurnIsFor t (turn.Settle f) r = (f.request ≡ r) × (t.request ≡ Some r)
TurnIsFor t other r = t.request ≡ Some r

-- a turn follows the plan in a registry, where a content is told (5.3 to 5.4.3)
abbrev pub FollowsIn : {A : Type 0} → Option Content → Shown → Request → Turn A → Type 0
FollowsIn told y r u = (content : Content) → told ≡ Some content
    → Follows (machine y content) (state_of y) r u

-- where a content is told the tables bear the answer, if it may be posted (5.3 to 5.4.3)
abbrev pub PostsIn : {A : Type 0} → Option Content → Shown → ℕ → Request → Turn A → Type 0
PostsIn told y q r (turn.Post f) = (content : Content) → told ≡ Some content → MayPostUnder y q r
    → IsBacked y f
PostsIn told y q r other = Unit {0}

-- a request was begun and waits with this call, which is no read: wherever the registry goes on to, what its task was told holds, the call
-- may be made, and it is what comes next; its post at least is left (5.3 to 5.4.3)
pub record IsSeated {A : Type 0} (told : Option Content) (x : Shown) (t : Tasked) (u : Turn A)
    (q : ℕ) (r : Request) : Type 0 where
  pub config : t.config ≡ x.config
  pub asks : Asks t u
  pub for_request : TurnIsFor t u r
  pub few : t.left ≤ all_left
  pub unread : AsksForRead u → ⊥
  pub more : AreLeft t.calls
  pub holds : (y : Shown) → IsAfter told x y → Holds y t
  pub backed : (y : Shown) → IsAfter told x y → IsCall u → Backed y u
  pub follows : (y : Shown) → IsAfter told x y → FollowsIn told y r u
  pub posts : (y : Shown) → IsAfter told x y → PostsIn told y q r u
  pub blames : TurnBlames x.config (IsAskedFor told x.config r) u

-- so it does in a registry in which its answer may be posted
abbrev pub IsSeatedAt : {A : Type 0} → Option Content → Shown → Tasked → Turn A → ℕ → Type 0
IsSeatedAt told x t u q = (r : Request) × MayPostUnder x q r × IsSeated told x t u q r

-- ---- what a choice does

-- a step is the next one of a request's service, where a content is told (5.3 to 5.4.3)
abbrev pub NextIn : Option Content → Shown → Request → Step → Type 0
NextIn told x r e = (content : Content) → told ≡ Some content
    → IsNextStep (machine x content) (state_of x) (request_of r) e

-- a request's service may end with an answer, where a content is told (5.3 to 5.4.3)
abbrev pub EndsIn : Option Content → Shown → Request → Answer → Type 0
EndsIn told x r a = (content : Content) → told ≡ Some content
    → MayEnd (machine x content) (state_of x) (request_of r) (answer_of a)

-- a request's call was made: nothing changed, or the next step of its service was made (5.3 to 5.4.3)
pub record HasAdvanced (told : Option Content) (old new : Shown) (q : ℕ) : Type 0 where
  pub request : Request
  pub asked : slice_get old.script.requests q ≡ Some request
  pub did : Did old new (λ e. IsOfService e × NextIn told old request e)

-- a request's answer was posted (5.3 to 5.4.3)
pub record HasPosted (told : Option Content) (old new : Shown) (q : ℕ) : Type 0 where
  pub request : Request
  pub asked : slice_get old.script.requests q ≡ Some request
  pub unanswered : IsOpen old q
  pub answer : Answer
  pub posted : new ≡ with_post old q answer
  pub ends : EndsIn told old request answer
  pub blames : AnswerBlames old.config (IsAskedFor told old.config request) answer

-- where a reply tells what the reference of a request is settled to, the loader that is asked has recorded its class (5.4.3)
abbrev pub IsCitedFor : {A : Type 0} → Shown → Waits → Reply A → Type 0
IsCitedFor x (Settling r) (reply.Settled s) = (e : Cited) × (cited_by x r ≡ Some e)
IsCitedFor x waits other = Unit {0}

-- what a task was told before a turn holds, and the turn is one for this request (5.3 to 5.4.3)
pub record TaskIsReady {A : Type 0} (told : Option Content) (x : Shown) (t : Tasked)
    (given : Reply A) (r : Request) : Type 0 where
  pub kept : IsKept told x
  pub config : t.config ≡ x.config
  pub request : t.request ≡ Some r
  pub few : t.left ≤ all_left
  pub tells : TellsNow x t given
  pub cited : IsCitedFor x t.waits given

-- ---- who waits

-- the requests below a number are of no later round, and none from it on has an answer
pub record IsRoundFront (x : Shown) (next : ℕ) : Type 0 where
  pub within : next ≤ length x.script.requests
  pub begun : (p : ℕ) → p < next → IsLater x p → ⊥
  pub open_later : (p : ℕ) → next ≤ p → p < length x.script.requests → IsOpen x p

-- these are the numbers of those that wait; the requests from another number on are of later rounds
pub record HasGathered (x : Shown) (ws : List ℕ) (next : ℕ) : Type 0 where
  pub waits : ws ≡ waiting_requests (schedule_of x.script) (state_of x)
  pub front : IsRoundFront x next
  pub later : (p : ℕ) → next ≤ p → p < length x.script.requests → IsLater x p

-- the requests below a number are answered, and no other is
pub record MayGather (x : Shown) (next : ℕ) : Type 0 where
  pub front : IsRoundFront x next
  pub answered : (p : ℕ) → p < next → IsOpen x p → ⊥

-- these are the numbers of all requests of one round that stand from one number on; the next one is of another round
pub record AreOfRound (s : Scripted) (first : ℕ) (ws : List ℕ) (next : ℕ) : Type 0 where
  pub numbers : ws ≡ range_with_len first (length ws)
  pub until : next ≡ first + length ws
  pub within : next ≤ length s.requests
  pub alike : (p : ℕ) → first ≤ p → p < next → slice_get s.rounds_of p ≡ slice_get s.rounds_of first
  pub apart : next < length s.requests → slice_get s.rounds_of next ≡ slice_get s.rounds_of first
      → ⊥
