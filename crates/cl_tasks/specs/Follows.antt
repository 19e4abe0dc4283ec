-- What a turn rests on: the tables, as far as the task was told of them, the plan of its request, and the faults told (JVMS SE 8, 5.3 to 5.4.3).
use Rattle.std.specs.Prelude.{◌≡◌, ◌≤◌, ◌+◌, ℕ, true, List, Option, Some, None, IfSome, Contains}
use Rattle.cl_model.specs.declared.class.Class.{Class}
use Rattle.cl_model.specs.declared.answer.Answer.{Answer}
use Rattle.cl_model.specs.declared.need.Need as needs
use Rattle.cl_model.specs.declared.answer.Answer.TheVariants as answers
use Rattle.cl_model.specs.declared.verdict.Verdict.TheVariants as verdicts
use Rattle.cl_model.specs.declared.verdict.Verdict as verdict
use Rattle.cl_model.specs.declared.request.Request.{Request}
use Rattle.cl_model.specs.declared.request.Request.TheVariants as requests
use Rattle.cl_model.specs.declared.settled.Settled.{Settled}
use Rattle.cl_model.specs.Content.{Content}
use Rattle.cl_model.specs.States.{State, Need, recorded_definer, settled_to, IsRecorded, Met, MayAdd, Refused}
use Rattle.cl_model.specs.Homes.{World}
use Rattle.cl_model.specs.Machine.{Setting, Settle, Prepare, IsPlan, IsSound, step_for}
use Rattle.cl_model.specs.Plans.{Plan, cost}
use Rattle.cl_model.specs.Service.{ComesTo, IsNextNeed, IsNextStep}
use Rattle.cl_model.specs.Tables.{IsConsistent, Records}
use Rattle.cl_model.specs.Views.{need_of, request_of, verdict_of}
use Rattle.cl_source.specs.declared.source.SourceFault.{SourceFault}
use Rattle.cl_source.specs.declared.source.SourceFault.TheVariants as faults
use Rattle.cl_config.specs.Views.{Configured, Scripted}
use Rattle.cl_delegation.specs.Worlds.{setting_of}
use Rattle.cl_hierarchy.specs.Imposed.{OfReference, OfPreparation, Sprung}
use Rattle.cl_findings.specs.Findings.{Answered, loader_of, name_of}
use Rattle.cl_findings.specs.References.{resolved_index}
use Rattle.cl_registry.specs.Tables.{Shown, state_of, NamesLoaders, MayEnter, MayJoin, LacksRecord}
use Rattle.cl_registry.specs.Imposing.{AreFirstPrepared, IsNextOf, IsPreparedBy, MayImpose, MayMark}
use Rattle.cl_registry.specs.Traced.{IsTraced}
use Rattle.cl_registry.specs.References.{IsSettledIn}
use Rattle.cl_registry.specs.Settling.{FindingSettles}
use Rattle.cl_registry.specs.Posting.{IsBacked}
use Rattle.cl_tasks.specs.Calls.{Calls, calls_in}
use Rattle.cl_tasks.specs.Tasks.{Tasked}
use Rattle.cl_tasks.specs.Facts.{Holds, IsRecordedAs}
use Rattle.cl_tasks.specs.Waits.{Waits, Beginning, Looking, Reading, Defining, Initiating, Tracing, LookingReference, Settling, Imposing, LookingPrepared, CountingPrepared, Marking}
use Rattle.cl_tasks.specs.declared.turn.Reply.{Reply}
use Rattle.cl_tasks.specs.declared.turn.Reply.TheVariants as reply
use Rattle.cl_tasks.specs.declared.turn.Turn.{Turn}
use Rattle.cl_tasks.specs.declared.turn.Turn.TheVariants as turn
use Rattle.cl_tasks.specs.Turns.{PostsOr}
use Rattle.cl_findings.specs.Loads.{asked_record, own_record}

-- ---- what a reply tells of the tables, and stays so

-- the reference of a request is settled to this, where its loader records the class (5.4.3)
abbrev pub IsSettledOf : Shown → Request → Settled → Type 0
IsSettledOf x r s = (d : Class) → Records (state_of x) (loader_of r) (name_of r) d
    → IsSettledIn x d (resolved_index r) s

-- what a call was answered holds: a class is recorded, a lineage is of the tables, a reference is settled, an equality is imposed,
-- a class is prepared, or the first so many above one, or what was to stand is refused (5.3 to 5.4.3)
abbrev pub ReplyTells : {A : Type 0} → Shown → Waits → Reply A → Type 0
ReplyTells x (Looking l n) (reply.Looked (Some row)) = IsRecordedAs x l n row.value
ReplyTells x (Defining d) (reply.Defined row) = IsRecordedAs x d.class.loader d.class.name row.value
ReplyTells x (Initiating h) (reply.Initiated row) = IsRecordedAs x h.asked h.name row.value
ReplyTells x (Tracing c) (reply.Lineage l) = IsTraced x c l
ReplyTells x (LookingReference c i) (reply.LookedReference (Some s)) = IsSettledIn x c i s.value
ReplyTells x (Settling r) (reply.Settled s) = IsSettledOf x r s.value
ReplyTells x (Imposing e k) reply.Imposed = IsNextOf e k (Met (state_of x))
ReplyTells x (LookingPrepared c) (reply.LookedPrepared true) = Contains (state_of x).prepared c
ReplyTells x (CountingPrepared l) (reply.CountedPrepared n) = AreFirstPrepared x l n
ReplyTells x (Marking e) reply.Marked = IsPreparedBy x e.origin
ReplyTells x waits (reply.Refused n) = Refused (state_of x) (need_of n)
ReplyTells x waits other = Unit {0}

-- what a task was told before this reply, and by it (5.3 to 5.4.3)
pub record Tells {A : Type 0} (x : Shown) (t : Tasked) (r : Reply A) : Type 0 where
  pub before : Holds x t
  pub now : ReplyTells x t.waits r

-- what a look found, or that it found nothing: true of the tables that were looked at, until that is recorded (5.3)
abbrev pub Unrecorded : {A : Type 0} → Shown → Waits → Reply A → Type 0
Unrecorded x (Looking l n) (reply.Looked None) = LacksRecord x l n
Unrecorded x waits other = Unit {0}

-- what holds of the tables that answered (5.3 to 5.4.3)
pub record TellsNow {A : Type 0} (x : Shown) (t : Tasked) (r : Reply A) : Type 0 where
  pub told : Tells x t r
  pub unrecorded : Unrecorded x t.waits r

-- ---- the tables, under any source

-- the tables bear what a turn asks for: a class may be recorded, a loader may be recorded as initiating, a class has a lineage, an
-- equality may be imposed, a class may be prepared, what an answer rests on stands (5.3 to 5.4.3)
abbrev pub Backed : {A : Type 0} → Shown → Turn A → Type 0
Backed x (turn.Define d) = MayEnter x d
Backed x (turn.Initiate h) = MayJoin x h.value
Backed x (turn.Lineage c) = IsRecorded (state_of x) c
Backed x (turn.Settle f) = FindingSettles x f
Backed x (turn.Impose e k) = MayImpose x e.value k
Backed x (turn.Mark e) = MayMark x e.value
Backed x (turn.Post f) = IsBacked x f
Backed x other = Unit {0}

-- the tables of this configuration, which are consistent and name its loaders alone, bear a turn wherever what the task was told holds of them (5.3)
abbrev pub BackedWhere : {A : Type 0} → Configured → (Shown → Type 0) → Turn A → Type 0
BackedWhere c holds t = (x : Shown) → x.config ≡ c → NamesLoaders x → IsConsistent (state_of x)
    → holds x → Backed x t

-- ---- the plan, where the source tells a content

-- the need comes next in the request's plan, and where it may be added its step is the next of the request's service (5.3 to 5.4.3)
pub record IsWanted (g : Setting) (s : State) (r : Request) (n : Need) : Type 0 where
  pub need : IsNextNeed g.world s (request_of r) n
  pub step : MayAdd s n → IsNextStep g s (request_of r) (step_for n)

-- the preparation of a class is the next step of the request's service, unless it is prepared (5.4.2)
abbrev pub IsPreparedNext : Setting → State → Request → Sprung → Type 0
IsPreparedNext g s r (OfReference d c index) = ⊥
IsPreparedNext g s r (OfPreparation l) = (Contains s.prepared l.own.class → ⊥)
    → IsNextStep g s (request_of r) (Prepare l.own.class)

-- what the reference of the request's class is settled to is the next step of its service, unless it is settled (5.4.3)
pub record IsSettledNext (g : Setting) (s : State) (r : Request) (f : Answered) : Type 0 where
  pub class : Class
  pub kept : Records s (loader_of r) (name_of r) class
  pub verdict : verdict.Verdict
  pub said : f.answer ≡ answers.Said verdict
  pub step : settled_to s.settled class (resolved_index r) ≡ None
      → IsNextStep g s (request_of r) (Settle class (resolved_index r) (verdict_of verdict))

-- the request's service has come to an answer, failures apart (5.3 to 5.4.3)
abbrev pub AnswerFollows : Setting → State → Request → Answer → Type 0
AnswerFollows g s r (answers.Said v) = ComesTo g s (request_of r) (verdict_of v)
AnswerFollows g s r (answers.Shared settled) = ComesTo g s (request_of r)
    (verdict_of settled.value.verdict)
AnswerFollows g s r answers.Memory = Unit {0}
AnswerFollows g s r (answers.SourceFault name loader) = Unit {0}

-- a turn is what comes next in the service of the request: a record of a class, or of the loader that was asked for it, an equality, a
-- preparation, what a reference is settled to, or the answer (5.3 to 5.4.3)
abbrev pub Follows : {A : Type 0} → Setting → State → Request → Turn A → Type 0
Follows g s r (turn.Define d) = IsWanted g s r (own_record d)
Follows g s r (turn.Initiate h) = IsWanted g s r (asked_record h.value)
    × (h.value.asked ≡ h.value.definer → ⊥)
Follows g s r (turn.Settle f) = IsSettledNext g s r f
Follows g s r (turn.Impose e k) = IsNextOf e.value k (IsWanted g s r)
Follows g s r (turn.Mark e) = IsPreparedNext g s r e.value.origin
Follows g s r (turn.Post f) = AnswerFollows g s r f.answer
Follows g s r other = Unit {0}

-- where a request is served: the setting is that of the content that is told, of this configuration and of a script, and all that the tables
-- hold is as it should be in it (5.3 to 5.4.3)
pub record ServedIn (told : Option Content) (c : Configured) (g : Setting)
    (s : State) : Type 0 where
  pub content : Content
  pub script : Scripted
  pub told_so : told ≡ Some content
  pub setting : g ≡ setting_of c script content
  pub sound : IsSound g s

-- a turn follows the plan wherever the request is served and this holds (5.3 to 5.4.3)
abbrev pub FollowsWhere : {A : Type 0} → Option Content → Configured → (Shown → Type 0) → Request
    → Turn A → Type 0
FollowsWhere told c holds r t = (g : Setting) (x : Shown) → ServedIn told c g (state_of x) → holds x
    → Follows g (state_of x) r t

-- ---- calls

-- the call that is waited for is one of the tables; the beginning is none, nor is a read
abbrev pub made_by : Waits → ℕ
made_by Beginning = 0
made_by (Reading l n) = 0
made_by waits = 1

-- where the request is served, and this is its plan, so many calls are left at most, beside those made (5.3 to 5.4.3)
abbrev pub CallsWithin : Option Content → Configured → (Shown → Type 0) → Request → ℕ → Calls
    → Calls → Type 0
CallsWithin told c holds r made left room =
    (g : Setting) (x : Shown) (p : Plan) → ServedIn told c g (state_of x)
    → IsPlan g.world (request_of r) p → holds x
    → made + calls_in left g.world p (state_of x) ≤ calls_in room g.world p (state_of x)

-- no more calls are left than a request costs (5.3 to 5.4.3)
abbrev pub IsWithinCost : Calls → Type 0
IsWithinCost n = (w : World) (p : Plan) (s : State) → calls_in n w p s ≤ cost w p

-- the post is always left, and no more calls are where more is recorded
pub record AreLeft (n : Calls) : Type 0 where
  pub post : (w : World) (p : Plan) (s : State) → 1 ≤ calls_in n w p s
  pub fewer : (w : World) (p : Plan) (s t : State)
      → ((l : ℕ) (name : List ℕ) → recorded_definer t.records l name ≡ None
      → recorded_definer s.records l name ≡ None) → calls_in n w p t ≤ calls_in n w p s

-- ---- faults

-- the answer that a refused read is: out of memory, or what was to be read at which loader
abbrev pub fault_answer : Waits → SourceFault → Answer
fault_answer (Reading l n) faults.Device = answers.SourceFault n l
fault_answer (Reading l n) faults.TooLarge = answers.SourceFault n l
fault_answer (Reading l n) faults.Twice = answers.SourceFault n l
fault_answer waits fault = answers.Memory

-- the answer that a reply is, where memory or the source was refused
abbrev pub refusal : {A : Type 0} → Tasked → Reply A → Option Answer
refusal t reply.Memory = Some answers.Memory
refusal t (reply.SourceFault fault) = Some (fault_answer t.waits fault)
refusal t other = None

-- an answer is no fault of the source
abbrev pub NoFault : Answer → Type 0
NoFault (answers.Said v) = Unit {0}
NoFault (answers.Shared settled) = Unit {0}
NoFault answers.Memory = Unit {0}
NoFault (answers.SourceFault name loader) = ⊥

-- a turn posts no fault of the source, and settles none
abbrev pub PostsNoFault : {A : Type 0} → Turn A → Type 0
PostsNoFault (turn.Post f) = NoFault f.answer
PostsNoFault other = Unit {0}

-- a turn posts this answer
abbrev pub Posts : {A : Type 0} → Answer → Turn A → Type 0
Posts a (turn.Post f) = f.answer ≡ a
Posts a other = ⊥

-- a request resolves a reference (5.4.3)
abbrev pub ResolvesReference : Request → Type 0
ResolvesReference (requests.Load loader name) = ⊥
ResolvesReference (requests.Resolve loader name i) = Unit {0}
ResolvesReference (requests.Link loader name) = ⊥

-- on this reply a turn may run out of memory: not where it posts what is settled, a fault of the source, or a refused need of
-- a load or a link
abbrev pub MayLack : {A : Type 0} → Option Request → Reply A → Type 0
MayLack r (reply.LookedReference (Some s)) = ⊥
MayLack r (reply.Settled s) = ⊥
MayLack r (reply.Refused n) = IfSome r ResolvesReference
MayLack r (reply.SourceFault fault) = fault ≡ faults.Memory
MayLack r other = Unit {0}

-- a turn posts that memory ran out only on such a reply
abbrev pub LacksOnly : {A : Type 0} → Option Request → Reply A → Turn A → Type 0
LacksOnly r reply t = Posts answers.Memory t → MayLack r reply

-- a refusal is posted as its answer, and a fault of the source nowhere else
abbrev pub Refuses : {A : Type 0} → Option Answer → Turn A → Type 0
Refuses None t = PostsNoFault t
Refuses (Some a) t = Posts a t

-- the class of a resolution is looked for where the request asks for it (5.4.3)
abbrev pub LooksAgain : ℕ → List ℕ → Request → Type 0
LooksAgain loader name (requests.Load l n) = ⊥
LooksAgain loader name (requests.Resolve l n i) = (loader ≡ l) × (name ≡ n)
LooksAgain loader name (requests.Link l n) = ⊥

-- a refused need is the answer, or what the reference is settled to, unless memory runs out; before a resolution is answered so, its class
-- is looked for once more (5.3.4)
abbrev pub EndsAsRefused : {A : Type 0} → Request → needs.Need → Turn A → Type 0
EndsAsRefused {A} r n (turn.Post f) = PostsOr {A = A} (answers.Said (verdicts.Linkage n))
    (turn.Post f)
EndsAsRefused {A} r n (turn.Settle f) = f.answer ≡ answers.Said (verdicts.Linkage n)
EndsAsRefused {A} r n (turn.Look loader name) = LooksAgain loader name r
EndsAsRefused {A} r n other = ⊥

-- the same of each reply that is such a refusal (5.3.4)
abbrev pub EndsRefused : {A : Type 0} → Option Request → Reply A → Turn A → Type 0
EndsRefused r (reply.Refused n) t = IfSome r (λ r. EndsAsRefused r n t)
EndsRefused r other t = Unit {0}
