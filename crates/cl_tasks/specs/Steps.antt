-- What a step of a task leads to, and what it rests on (JVMS SE 8, 5.3 to 5.4.3).
use Rattle.std.specs.Prelude.{◌≡◌, ◌⊎◌, ◌<◌, ◌+◌, ℕ, List, Option, Some, None, IfSome}
use Rattle.cl_model.specs.declared.answer.Answer.TheVariants as answers
use Rattle.cl_model.specs.declared.request.Request.{Request}
use Rattle.cl_model.specs.Content.{Content}
use Rattle.cl_config.specs.Views.{Configured}
use Rattle.cl_source.specs.Views.{Found}
use Rattle.cl_delegation.specs.Searches.{Searched, Located}
use Rattle.cl_hierarchy.specs.Frames.{Framed}
use Rattle.cl_hierarchy.specs.Rows.{Rowed}
use Rattle.cl_hierarchy.specs.Paths.{Pathed, at_loader, at_name, sought_class}
use Rattle.cl_findings.specs.Findings.{ungrounded_answer}
use Rattle.cl_findings.specs.declared.load.Obstacle.{Obstacle}
use Rattle.cl_findings.specs.declared.load.Obstacle.TheVariants as obstacles
use Rattle.cl_registry.specs.Tables.{Shown}
use Rattle.cl_tasks.specs.Blames.{FaultBlames}
use Rattle.cl_tasks.specs.Facts.{Holds, IsRecordedAs}
use Rattle.cl_tasks.specs.Follows.{BackedWhere, CallsWithin, EndsRefused, FollowsWhere, LacksOnly, NoFault, Refuses, Tells, TellsNow, made_by, refusal}
use Rattle.cl_tasks.specs.Deriving.{Derives}
use Rattle.cl_tasks.specs.Measures.{Phase, Homing, Reading}
use Rattle.cl_tasks.specs.Rooms.{Room, calls_at, calls_found, room_at, room_of}
use Rattle.cl_tasks.specs.Stages.{IsStage, probes_left, task_at, loading_at}
use Rattle.cl_tasks.specs.Tasks.{Tasked, begun_task}
use Rattle.cl_tasks.specs.Turns.{AnswersOwn, Asks, KeepsRequest, ReadsUnrecorded, WasAbsent, way_of}
use Rattle.cl_tasks.specs.declared.stage.Job.{Job}
use Rattle.cl_tasks.specs.declared.stage.Load.TheVariants as loads
use Rattle.cl_tasks.specs.declared.stage.Next.{Next}
use Rattle.cl_tasks.specs.declared.stage.Stage.{Stage}
use Rattle.cl_tasks.specs.declared.stage.Stage.TheVariants as stages
use Rattle.cl_tasks.specs.declared.turn.Reply.{Reply}
use Rattle.cl_tasks.specs.declared.turn.Turn.{Turn}
use Rattle.cl_tasks.specs.declared.turn.Turn.TheVariants as turn

-- where this holds, and now this, the request of this number goes on with this turn and stage, and fewer turns are left than there is room for, and
-- no more calls (5.3 to 5.4.3)
pub record LeadsOn {A : Type 0} (told : Option Content) (c : Configured) (q : ℕ) (r : Request)
    (room : Room) (holds now : Shown → Type 0) (n : Next A) : Type 0 where
  pub kept : IsStage told c n.stage
  pub number : (task_at c n.stage).q ≡ q
  pub asks : Asks (task_at c n.stage) n.turn
  pub serves : KeepsRequest (begun_task c q r) (task_at c n.stage) n.turn
  pub left : (task_at c n.stage).left < room.turns
  pub calls : CallsWithin told c now r room.made (task_at c n.stage).calls room.calls
  pub keeps : (x : Shown) → holds x → Holds x (task_at c n.stage)
  pub backed : BackedWhere c now n.turn
  pub follows : FollowsWhere told c holds r n.turn

-- the same where what holds now is no more (5.3 to 5.4.3)
abbrev pub LeadsBy : {A : Type 0} → Option Content → Configured → ℕ → Request → Room
    → (Shown → Type 0) → Next A → Type 0
LeadsBy told c q r room holds n = LeadsOn told c q r room holds holds n

-- the same of a job (5.3.5)
abbrev pub Leads : {A : Type 0} → Option Content → Job A → Room → (Shown → Type 0) → Next A → Type 0
Leads told j room holds n = LeadsBy told j.path.config j.q j.request room holds n

-- a job that is in this phase leads on (5.3.5)
abbrev pub LeadsAt : {A : Type 0} → Option Content → Phase → Job A → (Shown → Type 0) → Next A
    → Type 0
LeadsAt told phase j holds n = Leads told j (room_of (room_at phase j 0) (calls_at phase j 0)) holds
    n

-- the same where this is the home of what is looked for (5.3.2, 5.3.5)
abbrev pub LeadsFrom : {A : Type 0} → Option Content → Phase → Job A → ℕ → (Shown → Type 0) → Next A
    → Type 0
LeadsFrom told phase j place holds n = Leads told j
    (room_of (room_at phase j 0) (calls_at phase j place)) holds n

-- the same of what a look at its home found (5.3, 5.3.2)
abbrev pub LeadsHome : {A B : Type 0} → Option Content → Job A → ℕ → Option B → (Shown → Type 0)
    → Next A → Type 0
LeadsHome told j place found holds n = Leads told j
    (room_of (room_at Homing j 0) (calls_found j place found)) holds n

-- a job that has so many probes left leads on (5.3.2, 5.3.5)
abbrev pub ReadsOn : {A : Type 0} → Option Content → ℕ → Job A → (Shown → Type 0) → Next A → Type 0
ReadsOn told probes j holds n = Leads told j (room_of (room_at Reading j probes)
    (calls_at Reading j 0)) holds n

-- the room of a task
abbrev pub task_room : Tasked → Room
task_room t = record { turns = t.left; made = made_by t.waits; calls = t.calls }

-- the same of a task that is told this (5.3 to 5.4.3)
abbrev pub StepsOn : {A : Type 0} → Option Content → Tasked → Reply A → Next A → Type 0
StepsOn told t reply n = IfSome t.request (λ r. LeadsOn told t.config t.q r (task_room t)
    (λ x. Tells x t reply) (λ x. TellsNow x t reply) n)

-- what a job was told holds: the same as at its beginning (5.3, 5.3.5, 5.4.3)
abbrev pub HoldsOn : {A : Type 0} → Job A → Shown → Type 0
HoldsOn j x = Holds x (loading_at j.path.config (loads.Fresh j))

-- and what is looked for is recorded at this loader, as this row (5.3)
pub record FindsAt {A : Type 0} (j : Job A) (loader : ℕ) (row : Rowed) (x : Shown) : Type 0 where
  pub before : HoldsOn j x
  pub now : IsRecordedAs x loader (at_name j.path) row

-- and so at the loader that was asked (5.3)
abbrev pub FindsRow : {A : Type 0} → Job A → Rowed → Shown → Type 0
FindsRow j row x = FindsAt j (at_loader j.path) row x

-- and so at this home (5.3)
abbrev pub FindsBy : {A : Type 0} → Job A → Located → Rowed → Shown → Type 0
FindsBy j h row x = FindsAt j h.definer row x

-- what the home was found to have recorded, if anything (5.3)
abbrev pub FindsHome : {A B : Type 0} → Job A → Located → Option B → (B → Rowed) → Shown → Type 0
FindsHome j h None of x = HoldsOn j x
FindsHome j h (Some row) of x = FindsAt j h.definer (of row) x

-- the home that an obstacle names is one of so many loaders (5.3.2)
abbrev pub EndWithin : {A : Type 0} → ℕ → Obstacle A → Type 0
EndWithin count (obstacles.Missing u) = Unit {0}
EndWithin count (obstacles.Unreadable u) = u.home.definer < count
EndWithin count (obstacles.Circle h) = h.definer < count
EndWithin count (obstacles.Misfit row c kind) = Unit {0}

-- a class that does not fit is recorded where it was asked for (5.3)
abbrev pub EndTold : {A : Type 0} → Shown → Pathed → Obstacle A → Type 0
EndTold x p (obstacles.Missing u) = Unit {0}
EndTold x p (obstacles.Unreadable u) = Unit {0}
EndTold x p (obstacles.Circle h) = Unit {0}
EndTold x p (obstacles.Misfit row c kind) = IsRecordedAs x (at_loader p) (at_name p) row.value

-- what an answer rests on where a derivation is stopped (5.3, 5.3.5)
abbrev pub EndsOn : {A : Type 0} → Job A → Obstacle A → Shown → Type 0
EndsOn j end x = HoldsOn j x × EndTold x j.path end

-- how many reads a search has left at most, and one more unless bytes were found (5.3.2)
abbrev pub reads_on : Option Found → ℕ → ℕ
reads_on None probes = probes + 1
reads_on (Some p) probes = 0

-- the same of a search
abbrev pub reads_left : Searched → ℕ
reads_left s = reads_on s.found (probes_left s)

-- a turn reads nothing, and posts no fault of the source
abbrev pub IsPlain : {A : Type 0} → Turn A → Type 0
IsPlain (turn.Read l n) = ⊥
IsPlain (turn.Post f) = NoFault f.answer
IsPlain other = Unit {0}

-- the loaders on the way of what is looked for (5.3.2)
abbrev pub way_on : Pathed → List ℕ
way_on p = way_of p.config (sought_class p)

-- a turn that reads asks such a loader for what is looked for (5.3.2)
abbrev pub ReadsAt : {A : Type 0} → Pathed → (ℕ → Type 0) → Turn A → Type 0
ReadsAt p is (turn.Read l n) = (n ≡ at_name p) × is l
ReadsAt p is other = Unit {0}

-- memory ran out
abbrev pub memory_ends : {A : Type 0} → ℕ → Request → Next A
memory_ends q r = record {
  stage = stages.Done q;
  turn = turn.Post
      (ungrounded_answer r answers.Memory);
}

-- a class is being recorded, whose frame is kept, or memory ran out (5.3.5, step 5)
abbrev pub DefinesBy : {A : Type 0} → Job A → Framed → Next A → Type 0
DefinesBy j whole n =
    (n ≡ memory_ends j.q j.request) ⊎ (n ≡ record
    { stage = stages.Load (loads.Defining j whole); turn = turn.Define whole.draft })

-- what is looked for is looked up where it is asked for, or memory ran out (5.3)
abbrev pub LooksBy : {A : Type 0} → Job A → Stage A → Turn A → Type 0
LooksBy j s (turn.Look l n) = s ≡ stages.Load (loads.Looking j)
LooksBy j s (turn.Post f) = f.answer ≡ answers.Memory
LooksBy j s other = ⊥

-- what a task does on a reply: it leads on, and refusals, memory, reads, what is derived and its own class are dealt with as they are to be (5.3 to 5.4.3)
pub record Steps {A : Type 0} (told : Option Content) (t : Tasked) (reply : Reply A)
    (n : Next A) : Type 0 where
  pub leads : StepsOn told t reply n
  pub refused : Refuses (refusal t reply) n.turn
  pub linkage : EndsRefused t.request reply n.turn
  pub lacks : LacksOnly t.request reply n.turn
  pub blames : FaultBlames told t reply n.turn
  pub reads : ReadsUnrecorded t reply n.turn
  pub derives : Derives (WasAbsent t reply) t.frames n.stage
  pub own : AnswersOwn t (task_at t.config n.stage) reply n.turn
