-- The room that requests wait in, and what a choice does to it.
use Rattle.std.specs.Prelude.{◌≡◌, ◌⊎◌, ◌<◌, ◌+◌, ◌-◌, ◌*◌, ℕ, List, [], ◌∷◌, ◌++◌, length, replicate, Option, Some, None, MatchOption, slice_get, slice_set}
use Rattle.cl_config.specs.Scripts.{HasLoaders}
use Rattle.cl_config.specs.Views.{Configured, Scripted}
use Rattle.cl_model.specs.declared.request.Request.{Request}
use Rattle.cl_model.specs.Content.{Content}
use Rattle.cl_model.specs.Machine.{Step, state_after}
use Rattle.cl_model.specs.Service.{PassesRounds}
use Rattle.cl_registry.specs.Tables.{Shown, IsKept, IsOpen, RoundMayBegin, state_of, steps, machine}
use Rattle.cl_registry.specs.Posting.{MayPostUnder}
use Rattle.cl_tasks.specs.Measures.{all_left}
use Rattle.cl_schedule.specs.declared.choices.Room.{Room}
use Rattle.cl_schedule.specs.declared.seats.Seat.{Seat}
use Rattle.cl_schedule.specs.declared.serve.ServeFault.{ServeFault}
use Rattle.cl_schedule.specs.declared.serve.ServeFault.TheVariants as faults
use Rattle.cl_schedule.specs.Blames.{EachBlames}
use Rattle.cl_schedule.specs.Choices.{Chooses, Piece, IsPlayedBy}
use Rattle.cl_schedule.specs.Counting.{CountGrows, debt}
use Rattle.cl_schedule.specs.Nearing.{by_verdict}
use Rattle.cl_schedule.specs.Paying.{by_plan}
use Rattle.cl_schedule.specs.Places.{seat_at}
use Rattle.cl_schedule.specs.Seats.{HasAdvanced, HasGathered, HasPosted, IsSeated, IsSeatedAt}
use Rattle.cl_schedule.specs.Takings.{ComesNearer, ChoiceKeeps}

-- ---- the room

-- each request that has a seat waits with its task and its call
abbrev pub AllSeated : {A : Type 0} → Option Content → Shown → Room A → Type 0
AllSeated {A} told x room = (q : ℕ) (s : Seat A) (r : Request) → seat_at room q ≡ Some s
    → slice_get x.script.requests q ≡ Some r → IsSeated told x s.task s.call q r

-- a place for each request, those that were begun in theirs, and who waits
pub record IsRoom {A : Type 0} (told : Option Content) (x : Shown) (room : Room A) : Type 0 where
  pub tasks_whole : length room.tasks.items ≡ length x.script.requests
  pub calls_whole : length room.calls.items ≡ length x.script.requests
  pub seated : AllSeated told x room
  pub gathered : HasGathered x room.waiting.items room.next

-- each request that has a seat has no answer
abbrev pub OpenSeats : {A : Type 0} → Shown → Room A → Type 0
OpenSeats {A} x room = (q : ℕ) (s : Seat A) → seat_at room q ≡ Some s → IsOpen x q

-- a request was taken from its place, and all else stayed
pub record HasTaken {A : Type 0} (old new : Room A) (q : ℕ) : Type 0 where
  pub tasks : (new.tasks.items ≡ old.tasks.items)
      ⊎ (new.tasks.items ≡ slice_set old.tasks.items q None)
  pub calls : new.calls.items ≡ slice_set old.calls.items q None
  pub waiting : new.waiting.items ≡ old.waiting.items
  pub next : new.next ≡ old.next

-- nobody has a seat
abbrev pub NoneSeated : {A : Type 0} → Room A → Type 0
NoneSeated room = (q : ℕ) → seat_at room q ≡ None

-- the request of this number may be taken: its answer may be posted
abbrev pub MayBeTaken : Shown → ℕ → Type 0
MayBeTaken x q = (r : Request) × MayPostUnder x q r

-- memory ran out, or a stray was met, which no source that tells a content brings
abbrev pub IsStrayUntold : Option Content → ServeFault → Type 0
IsStrayUntold told e = (e ≡ faults.Memory) ⊎ ((e ≡ faults.Stray) × (told ≡ None))

-- ---- a choice and the rounds behind it

-- steps were added where a content is told: one piece of what the choice takes, and then the rounds that may begin
abbrev pub PlaysIn : Option Content → Shown → Shown → ℕ → Type 0
PlaysIn None old new choice = Unit {0}
PlaysIn (Some content) old new choice =
    (one : List Step) × (rounds : List Step) × (steps new ≡ steps old ++ (one ++ rounds))
    × Chooses (machine old content) (state_of old) choice one
    × PassesRounds (machine old content) (state_after (state_of old) one) rounds

-- the choices so far, after the rounds that began at first
abbrev pub PlayedTo : Option Content → Shown → List ℕ → Type 0
PlayedTo None x cs = Unit {0}
PlayedTo (Some content) x cs = (rounds : List Step) × (pieces : List Piece)
    × IsPlayedBy (machine x content) cs (steps x) rounds pieces

-- after the schedule the first request that waits was taken so often
abbrev pub PlayedPast : Option Content → Shown → List ℕ → Type 0
PlayedPast told x cs = (more : ℕ) × PlayedTo told x (cs ++ replicate more 0)

-- the piece alone
abbrev pub ChoosesIn : Option Content → Shown → Shown → ℕ → Type 0
ChoosesIn None old new choice = Unit {0}
ChoosesIn (Some content) old new choice =
    (one : List Step) × (steps new ≡ steps old ++ one)
    × Chooses (machine old content) (state_of old) choice one

-- turns that are left at most of a request that has this seat, or was not begun
abbrev pub left_of : {A : Type 0} → Option (Seat A) → ℕ
left_of None = all_left + 1
left_of (Some s) = s.task.left

-- those of the request of this number
abbrev pub left_of_request : {A : Type 0} → Room A → ℕ → ℕ
left_of_request room q = left_of (seat_at room q)

-- those of the first request that waits
abbrev pub first_left : {A : Type 0} → Room A → List ℕ → ℕ
first_left room [] = 0
first_left room (q ∷ ws) = left_of_request room q

-- how many requests have no answer yet
abbrev pub room_sum : {A : Type 0} → Room A → ℕ
room_sum room = length room.waiting.items + (length room.tasks.items - room.next)

-- a number that falls while the first request is taken again and again
abbrev pub room_left : {A : Type 0} → Room A → ℕ
room_left room = room_sum room * (all_left + 2) + first_left room room.waiting.items

-- the first request was taken, if one waited: it was answered, or fewer turns are left of it
abbrev pub TakesFirst : {A : Type 0} → ℕ → Room A → Room A → Type 0
TakesFirst choice old new =
    choice ≡ 0 → (old.waiting.items ≡ [] → ⊥)
    → (room_sum new + 1 ≡ room_sum old)
    ⊎ ((room_sum new ≡ room_sum old) × (new.waiting.items ≡ old.waiting.items)
    × (first_left new new.waiting.items < first_left old old.waiting.items))

-- the number fell, if the choice was the first request, and one waited
abbrev pub FirstFalls : {A : Type 0} → ℕ → Room A → Room A → Type 0
FirstFalls choice old new = choice ≡ 0 → (old.waiting.items ≡ [] → ⊥)
    → room_left new < room_left old

-- ---- what is served

-- a script is served by a registry and a room
pub record IsServing {A : Type 0} (told : Option Content) (config : Configured) (script : Scripted)
    (x : Shown) (room : Room A) : Type 0 where
  -- the registry is of this configuration
  pub configured : x.config ≡ config
  -- and of this script
  pub scripted : x.script ≡ script
  -- each loader that a request names is one of the configuration
  pub loaders : HasLoaders (length config.loaders) script.requests
  -- the tables and the history are those of a registry
  pub kept : IsKept told x
  -- each request has its place, and who waits is there
  pub places : IsRoom told x room
  -- who has a seat has no answer
  pub seats : OpenSeats x room
  -- a fault of the source that was answered blames whom the search for a name asks
  pub blames : EachBlames told x

-- it is served on
pub record ServesOn {A : Type 0} (told : Option Content) (config : Configured) (script : Scripted)
    (old new : Shown) (was now : Room A) (before after : ℕ) : Type 0 where
  -- as it was
  pub serves : IsServing told config script new now
  -- as many answers more are faults of the source, or will be by the posts that are asked for, as the source's count rose by
  pub faults : CountGrows (debt old was) (debt new now) before after

-- no choice was made yet
pub record RoomIsOpened {A : Type 0} (told : Option Content) (x : Shown)
    (room : Room A) : Type 0 where
  -- the history is the rounds that begin at first
  pub begun : PlayedTo told x []
  -- and no other round may
  pub over : RoundMayBegin x → ⊥
  -- nobody was begun
  pub fresh : NoneSeated room
  -- no fault of the source is owed
  pub none_owed : debt x room ≡ 0

-- each request has its answer
pub record RoomIsOver {A : Type 0} (x : Shown) (room : Room A) : Type 0 where
  -- nobody waits
  pub none : room.waiting.items ≡ []
  -- and no round may begin
  pub over : RoundMayBegin x → ⊥

-- ---- what a choice does with the request that it takes

-- a request's call was made, and it waits with the next one
pub record WaitsAgain {A : Type 0} (told : Option Content) (old new : Shown) (q left : ℕ)
    (s : Seat A) : Type 0 where
  -- nothing changed, or the next step of its service was made
  pub advanced : HasAdvanced told old new q
  -- its next call may be made, and is what comes next
  pub seated : IsSeatedAt told new s.task s.call q
  -- fewer turns are left of it
  pub less : s.task.left < left

-- a request that had this seat, or none, was taken, and has this one now, or its answer
pub record HasTurned {A : Type 0} (told : Option Content) (old new : Shown) (q : ℕ)
    (before after : Option (Seat A)) : Type 0 where
  -- its answer was posted, or its call was made
  pub did : MatchOption after (HasPosted told old new q)
      (WaitsAgain told old new q (left_of before))
  -- where the tables have its verdict it is nearer to that, or it is its answer, or out of memory
  pub known : ComesNearer by_verdict old new q before after
  -- by its plan it has one call fewer left, or its answer
  pub paid : ComesNearer (by_plan told old.config) old new q before after

-- behind any pieces a choice keeps how often each request is taken at most
pub record KeepsTakings {A : Type 0} (told : Option Content) (old new : Shown) (was now : Room A)
    (choice : ℕ) : Type 0 where
  -- where the tables have its verdict
  pub known : ChoiceKeeps by_verdict old new was now choice
  -- by its plan
  pub paid : ChoiceKeeps (by_plan told old.config) old new was now choice
