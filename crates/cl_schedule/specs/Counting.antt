-- How many answers are faults of the source, beside the count that the source keeps of them.
use Rattle.std.specs.Prelude.{◌≡◌, ◌⊎◌, ◌+◌, ◌≤◌, ◌^◌, ℕ, List, [], ◌∷◌, map, Option, Some, None}
use Rattle.cl_model.specs.declared.answer.Answer.{Answer}
use Rattle.cl_source.specs.declared.source.SourceFault.TheVariants as sources
use Rattle.cl_registry.specs.declared.report.Report.{Report}
use Rattle.cl_registry.specs.Tables.{Shown}
use Rattle.cl_tasks.specs.Tasks.{Tasked}
use Rattle.cl_tasks.specs.declared.turn.Reply.{Reply}
use Rattle.cl_tasks.specs.declared.turn.Reply.TheVariants as reply
use Rattle.cl_tasks.specs.declared.turn.Turn.{Turn}
use Rattle.cl_tasks.specs.declared.turn.Turn.TheVariants as turn
use Rattle.cl_schedule.specs.declared.choices.Room.{Room}
use Rattle.cl_schedule.specs.declared.seats.Seat.{Seat}
use Rattle.cl_schedule.specs.Places.{seat_at, seat_of}
use Rattle.cl_model.specs.declared.answer.Answer.TheVariants.{Said, Shared, Memory, SourceFault}

-- one where the answer is a fault of the source
abbrev pub fault : Answer → ℕ
fault (Said v) = 0
fault (Shared s) = 0
fault Memory = 0
fault (SourceFault name loader) = 1

-- how many of the answers given are faults of the source
abbrev pub faults : List (Option Answer) → ℕ
faults [] = 0
faults (None ∷ more) = faults more
faults (Some a ∷ more) = fault a + faults more

-- a source's count rose by just this many, or by no more and is at its last value
abbrev pub RoseBy : ℕ → ℕ → ℕ → Type 0
RoseBy n old new = (new ≡ old + n) ⊎ ((new + 1 ≡ 2 ^ 64) × (new ≤ old + n))

-- the count rose so, and once it is at its last value it stays there
pub record Grows (n old new : ℕ) : Type 0 where
  pub stays : old + 1 ≡ 2 ^ 64 → new + 1 ≡ 2 ^ 64
  pub rose : RoseBy n old new

-- this number is the other one and as many as the count rose by
pub record CountGrows (given more old new : ℕ) : Type 0 where
  pub number : ℕ
  pub counted : more ≡ given + number
  pub grows : Grows number old new

-- one where a reply tells of a fault of the source that is not out of memory
abbrev pub told_faults : {A : Type 0} → Reply A → ℕ
told_faults (reply.SourceFault sources.Device) = 1
told_faults (reply.SourceFault sources.TooLarge) = 1
told_faults (reply.SourceFault sources.Twice) = 1
told_faults other = 0

-- as many reads of a source were counted as refused as answers of a report are faults of the source; no fewer answers than
-- reads where the count is at its last value
abbrev pub CountsFaults : Report → ℕ → ℕ → Type 0
CountsFaults r old new = RoseBy (faults (map (λ a. Some a) r.answers)) old new

-- ---- what is still to be posted

-- one where a turn asks to post a fault of the source
abbrev pub owed_fault : {A : Type 0} → Turn A → ℕ
owed_fault (turn.Post f) = fault f.answer
owed_fault other = 0

-- one where the request that has a seat is to post such an answer
abbrev pub owed_of : {A : Type 0} → Option (Seat A) → ℕ
owed_of None = 0
owed_of (Some s) = owed_fault s.call

-- how many requests were begun and are to post such an answer
abbrev pub owed_all : {A : Type 0} → List (Option Tasked) → List (Option (Turn A)) → ℕ
owed_all [] calls = 0
owed_all (t ∷ ts) [] = 0
owed_all (t ∷ ts) (u ∷ us) = owed_of (seat_of (Some t) (Some u)) + owed_all ts us

-- one where the request of this number is one of them
abbrev pub owed_at : {A : Type 0} → Room A → ℕ → ℕ
owed_at room q = owed_of (seat_at room q)

-- how many answers are faults of the source, and how many more will be by the posts that are asked for
abbrev pub debt : {A : Type 0} → Shown → Room A → ℕ
debt x room = faults x.answers + owed_all room.tasks.items room.calls.items
