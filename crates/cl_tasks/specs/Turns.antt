-- What a task asks, and what it may be told (JVMS SE 8, 5.3 to 5.4.3).
use Rattle.std.specs.Prelude.{◌≡◌, ◌≢◌, ◌≤◌, ◌⊎◌, ℕ, suc, length, true, List, [], ◌∷◌, Option, Some, None, slice_get, option_map}
use Rattle.cl_model.specs.declared.class.Class.{Class}
use Rattle.cl_model.specs.declared.request.Request.{Request}
use Rattle.cl_model.specs.declared.request.Request.TheVariants as requests
use Rattle.cl_model.specs.declared.answer.Answer.{Answer}
use Rattle.cl_model.specs.declared.answer.Answer.TheVariants as answers
use Rattle.cl_model.specs.declared.verdict.Verdict.TheVariants as verdicts
use Rattle.cl_model.specs.Frames.{Frame}
use Rattle.cl_model.specs.States.{Need}
use Rattle.cl_model.specs.Views.{need_of}
use Rattle.cl_config.specs.Loaders.{loaders_in}
use Rattle.cl_config.specs.Views.{Configured}
use Rattle.cl_source.specs.Views.{Found}
use Rattle.cl_model.specs.Probes.{first_places, route}
use Rattle.cl_hierarchy.specs.Imposed.{Listed, equal_need}
use Rattle.cl_hierarchy.specs.Lineages.{Lined}
use Rattle.cl_findings.specs.Findings.{IsSettledFor, loader_of, name_of}
use Rattle.cl_tasks.specs.Tasks.{Tasked, Stands}
use Rattle.cl_tasks.specs.Waits.{Waits, Beginning, Looking, Reading, Defining, Initiating, Tracing, LookingReference, Settling, Imposing, LookingPrepared, CountingPrepared, Marking, Ended}
use Rattle.cl_tasks.specs.declared.turn.Reply.{Reply}
use Rattle.cl_tasks.specs.declared.turn.Reply.TheVariants as reply
use Rattle.cl_tasks.specs.declared.turn.Turn.{Turn}
use Rattle.cl_tasks.specs.declared.turn.Turn.TheVariants as turn
use Rattle.cl_findings.specs.Loads.{asked_record, own_record}

-- ---- what may be told

-- the equality at a place of a list, as a need, if the list is so long (5.3.4)
abbrev pub equality_at : Listed → ℕ → Option Need
equality_at e k = option_map equal_need (slice_get e.needs k)

-- the need that the call which is waited for would make stand, if it is one that may be refused (5.3.4)
abbrev pub need_at : Waits → Option Need
need_at (Defining d) = Some (own_record d)
need_at (Initiating h) = Some (asked_record h)
need_at (Imposing e k) = equality_at e k
need_at waits = None

-- the lineage is of a class, under this configuration (5.3.5)
pub record IsOf (c : Configured) (k : Class) (l : Lined) : Type 0 where
  pub class : l.own.class ≡ k
  pub config : l.config ≡ c

-- the reply is one to this call; memory may be refused to each, and a need to one that would make it stand
abbrev pub IsReplyTo : {A : Type 0} → Configured → Waits → Reply A → Type 0
IsReplyTo config waits reply.Start = waits ≡ Beginning
IsReplyTo config (Looking l n) (reply.Looked row) = Unit {0}
IsReplyTo config (Reading l n) (reply.Probed p) = (p.loader ≡ l) × (p.name ≡ n)
IsReplyTo config (Reading l n) (reply.SourceFault f) = Unit {0}
IsReplyTo config (Defining d) (reply.Defined row) = Unit {0}
IsReplyTo config (Initiating h) (reply.Initiated row) = Unit {0}
IsReplyTo config (Tracing c) (reply.Lineage l) = IsOf config c l
IsReplyTo config (LookingReference c i) (reply.LookedReference None) = Unit {0}
IsReplyTo config (LookingReference c i) (reply.LookedReference (Some s)) = (s.value.class ≡ c)
    × (s.value.index ≡ i)
IsReplyTo config (Settling r) (reply.Settled s) = IsSettledFor r s.value
IsReplyTo config (Imposing e k) reply.Imposed = Unit {0}
IsReplyTo config (LookingPrepared c) (reply.LookedPrepared b) = Unit {0}
IsReplyTo config (CountingPrepared l) (reply.CountedPrepared n) = n ≤ length l.above
IsReplyTo config (Marking e) reply.Marked = Unit {0}
IsReplyTo config waits (reply.Refused n) = need_at waits ≡ Some (need_of n)
IsReplyTo config waits reply.Memory = waits ≢ Ended
IsReplyTo config waits other = ⊥

-- the reply is one to what was asked
abbrev pub Expects : {A : Type 0} → Tasked → Reply A → Type 0
Expects t r = IsReplyTo t.config t.waits r

-- ---- what is asked

-- the call that a turn is
abbrev pub call_of : {A : Type 0} → Turn A → Waits
call_of (turn.Look l n) = Looking l n
call_of (turn.Read l n) = Reading l n
call_of (turn.Define d) = Defining d
call_of (turn.Initiate h) = Initiating h.value
call_of (turn.Lineage c) = Tracing c
call_of (turn.LookReference c i) = LookingReference c i
call_of (turn.Settle f) = Settling f.request
call_of (turn.Impose e k) = Imposing e.value k
call_of (turn.LookPrepared c) = LookingPrepared c
call_of (turn.CountPrepared l) = CountingPrepared l
call_of (turn.Mark e) = Marking e.value
call_of (turn.Post f) = Ended

-- the task waits for the reply to what it asks
abbrev pub Asks : {A : Type 0} → Tasked → Turn A → Type 0
Asks t turn = t.waits ≡ call_of turn

-- the request stays until its answer is posted, and is that of what is settled and posted
abbrev pub KeepsRequest : {A : Type 0} → Tasked → Tasked → Turn A → Type 0
KeepsRequest old new (turn.Post f) = old.request ≡ Some f.request
KeepsRequest old new (turn.Settle f) = (old.request ≡ Some f.request) × (new.request ≡ old.request)
KeepsRequest old new other = new.request ≡ old.request

-- ---- what is looked at first

-- a class is one of those that are being derived (5.3.5, step 3)
abbrev pub IsDerived : List Frame → Class → Type 0
IsDerived [] c = ⊥
IsDerived (x ∷ xs) c = (x.class ≡ c) ⊎ IsDerived xs c

-- of a class the task was told, before this reply or by it, that its loader has no record (5.3)
abbrev pub WasAbsent : {A : Type 0} → Tasked → Reply A → Class → Type 0
WasAbsent t (reply.Looked None) c = (t.absent ≡ Some c) ⊎ (t.waits ≡ Looking c.loader c.name)
WasAbsent t other c = t.absent ≡ Some c

-- each class that is derived now was so before, or is one of these (5.3.5)
abbrev pub AreDerived : (Class → Type 0) → List Frame → List Frame → Type 0
AreDerived absent before now = (c : Class) → IsDerived now c → IsDerived before c ⊎ absent c

-- a class is defined that the task derives (5.3.5)
abbrev pub AsksDerived : {A : Type 0} → Tasked → Turn A → Type 0
AsksDerived t (turn.Define d) = IsDerived t.frames d.class
AsksDerived t other = Unit {0}

-- a task reads for a class, and derives it, only after it was told that the class's loader has no record (5.3, 5.3.5)
pub record DerivesUnrecorded {A : Type 0} (old new : Tasked) (r : Reply A)
    (t : Turn A) : Type 0 where
  pub absent : (c : Class) → new.absent ≡ Some c → WasAbsent old r c
  pub derived : AreDerived (WasAbsent old r) old.frames new.frames
  pub asked : AsksDerived new t

-- the loaders on the way of a class: those that are asked for its name where its own loader is asked for it, in order and each once (5.3.2)
abbrev pub way_of : Configured → Class → List ℕ
way_of config c = first_places [] (route (loaders_in config) c.loader c.name)

-- a loader stands on a way directly behind that of a probe, which found nothing (5.3.2)
pub record IsBehind (way : List ℕ) (p : Found) (loader : ℕ) : Type 0 where
  pub nothing : p.bytes ≡ None
  pub place : ℕ
  pub read : slice_get way place ≡ Some p.loader
  pub next : slice_get way (suc place) ≡ Some loader

-- the loader that is read next on a way: the first after a look that found no record, after a read that found nothing the one behind (5.3, 5.3.2)
abbrev pub IsReadNext : {A : Type 0} → List ℕ → Reply A → ℕ → Type 0
IsReadNext way (reply.Looked None) loader = slice_get way 0 ≡ Some loader
IsReadNext way (reply.Probed p) loader = IsBehind way p loader
IsReadNext way other loader = ⊥

-- a task reads the name of a class of which it was told that its loader has no record: along the way of the class, while each loader lacks it (5.3, 5.3.2)
abbrev pub ReadsUnrecorded : {A : Type 0} → Tasked → Reply A → Turn A → Type 0
ReadsUnrecorded t r (turn.Read l n) = (c : Class) × WasAbsent t r c × (c.name ≡ n)
    × IsReadNext (way_of t.config c) r l
ReadsUnrecorded t r other = Unit {0}

-- a turn posts this answer, or that memory ran out
abbrev pub PostsOr : {A : Type 0} → Answer → Turn A → Type 0
PostsOr a (turn.Post f) = (f.answer ≡ a) ⊎ (f.answer ≡ answers.Memory)
PostsOr a other = ⊥

-- a task was told one thing alone, that a need stands
abbrev pub KnowsOne : Tasked → Type 0
KnowsOne t = (n : Need) × (t.facts ≡ Stands n ∷ [])

-- a turn asks what a request asks of its class once that is recorded: to answer it, to look at its reference, to look whether it is prepared, and then
-- the task knows that it is recorded, and no more; or memory ran out (5.3, 5.4, 5.4.3)
abbrev pub GoesOnWith : {A : Type 0} → Request → Class → Tasked → Turn A → Type 0
GoesOnWith (requests.Load loader name) c new t = PostsOr (answers.Said (verdicts.Class c)) t
GoesOnWith (requests.Resolve loader name i) c new (turn.LookReference d j) = (d ≡ c) × (j ≡ i)
GoesOnWith (requests.Link loader name) c new (turn.LookPrepared d) = (d ≡ c) × KnowsOne new
GoesOnWith r c new (turn.Post f) = f.answer ≡ answers.Memory
GoesOnWith r c new other = ⊥

-- a task that was told nothing yet of its class looks for it first, and goes on with the class that its loader has recorded, also where the
-- task itself had it recorded: once it is defined, where its loader is the home, else once the loader is recorded; a reference that is
-- settled is answered so; a class that is prepared is linked, where the task was told nothing but that it is recorded; memory may run out
-- (5.3, 5.4, 5.4.3)
abbrev pub AnswersOwn : {A : Type 0} → Tasked → Tasked → Reply A → Turn A → Type 0
AnswersOwn old new reply.Start (turn.Look l n) = (new.frames ≡ []) × (new.facts ≡ [])
    × ((r : Request) → old.request ≡ Some r → (l ≡ loader_of r) × (n ≡ name_of r))
AnswersOwn old new reply.Start (turn.Post f) = f.answer ≡ answers.Memory
AnswersOwn old new reply.Start t = ⊥
AnswersOwn old new (reply.Looked (Some row)) t = (r : Request) → old.request ≡ Some r
    → old.waits ≡ Looking (loader_of r) (name_of r) → old.frames ≡ [] → old.facts ≡ []
    → GoesOnWith r row.value.class new t
AnswersOwn old new (reply.Initiated row) t = (r : Request) → old.request ≡ Some r → old.frames ≡ []
    → KnowsOne old → GoesOnWith r row.value.class new t
AnswersOwn old new (reply.Defined row) t = (r : Request) (f : Frame) → old.request ≡ Some r
    → old.frames ≡ f ∷ [] → f.class.loader ≡ loader_of r → old.facts ≡ []
    → GoesOnWith r row.value.class new t
AnswersOwn old new (reply.LookedReference (Some s)) t = PostsOr (answers.Shared s) t
AnswersOwn old new (reply.LookedPrepared true) t = (c : Class) → old.waits ≡ LookingPrepared c
    → KnowsOne old → PostsOr (answers.Said (verdicts.Linked c)) t
AnswersOwn old new (reply.Settled s) t = PostsOr (answers.Shared s) t
AnswersOwn old new other t = Unit {0}
