-- What a call of a task is answered, and what it adds to the tables (JVMS SE 8, 5.3 to 5.4.3).
use Rattle.std.specs.Prelude.{◌≡◌, ◌⊎◌, ℕ, false, Option, Some, None, IsSome, MatchOption, slice_get, Contains}
use Rattle.cl_model.specs.declared.need.Equality.{Equality}
use Rattle.cl_model.specs.declared.settled.Settled.{Settled}
use Rattle.cl_model.specs.States.{recorded_definer, settled_to}
use Rattle.cl_model.specs.Machine.{Step, Define, Initiate, Settle, Prepare, step_for}
use Rattle.cl_model.specs.Views.{verdict_of}
use Rattle.cl_delegation.specs.Searches.{Located}
use Rattle.cl_findings.specs.Findings.{Answered}
use Rattle.cl_hierarchy.specs.Drafts.{Drafted}
use Rattle.cl_hierarchy.specs.Imposed.{Listed, Sprung, OfReference, OfPreparation, equal_need}
use Rattle.cl_registry.specs.declared.registry.RegistryFault.{RegistryFault}
use Rattle.cl_registry.specs.declared.registry.RegistryFault.TheVariants as faults
use Rattle.cl_registry.specs.Imposing.{ArePreparedUpTo}
use Rattle.cl_registry.specs.Settling.{IsToSettle}
use Rattle.cl_registry.specs.Tables.{Shown, IsKept, records_of, state_of, LacksRecord}
use Rattle.cl_tasks.specs.Waits.{Waits, Looking, LookingReference, LookingPrepared, CountingPrepared}
use Rattle.cl_tasks.specs.Turns.{IsReplyTo, call_of}
use Rattle.cl_tasks.specs.Follows.{ReplyTells}
use Rattle.cl_tasks.specs.declared.turn.Reply.{Reply}
use Rattle.cl_tasks.specs.declared.turn.Reply.TheVariants as reply
use Rattle.cl_tasks.specs.declared.turn.Turn.{Turn}
use Rattle.cl_tasks.specs.declared.turn.Turn.TheVariants as turn
use Rattle.cl_model.specs.Content.{Content}
use Rattle.cl_schedule.specs.Counting.{Grows, told_faults}
use Rattle.cl_schedule.specs.Serving.{GoesBy}

-- a turn that asks for a call, and not for the post
abbrev pub IsCall : {A : Type 0} → Turn A → Type 0
IsCall (turn.Post f) = ⊥
IsCall other = Unit {0}

-- a turn that asks for a read (5.3.2)
abbrev pub AsksForRead : {A : Type 0} → Turn A → Type 0
AsksForRead (turn.Read l n) = Unit {0}
AsksForRead other = ⊥

-- a turn that asks for a call of the tables, and neither for a read nor for the post (5.3 to 5.4.3)
abbrev pub IsOfTables : {A : Type 0} → Turn A → Type 0
IsOfTables (turn.Read l n) = ⊥
IsOfTables (turn.Post f) = ⊥
IsOfTables other = Unit {0}

-- a look finds nothing only where nothing is recorded, settled or prepared, and memory runs out only where something is to be
-- shared (5.3, 5.4.2, 5.4.3)
abbrev pub Shows : {A : Type 0} → Shown → Waits → Reply A → Type 0
Shows x (Looking l n) (reply.Looked None) = LacksRecord x l n
Shows x (Looking l n) reply.Memory = IsSome (recorded_definer (records_of x) l n)
Shows x (LookingReference c i) (reply.LookedReference None) = settled_to
    (state_of x).settled c i ≡ None
Shows x (LookingReference c i) reply.Memory = IsSome (settled_to (state_of x).settled c i)
Shows x (LookingPrepared c) (reply.LookedPrepared false) = Contains (state_of x).prepared c → ⊥
Shows x (LookingPrepared c) reply.Memory = ⊥
Shows x (CountingPrepared l) (reply.CountedPrepared n) = ArePreparedUpTo x l n
Shows x (CountingPrepared l) reply.Memory = ⊥
Shows x waits other = Unit {0}

-- a call was answered: the reply is one to it, and tells what the tables hold (5.3 to 5.4.3)
pub record IsReplied {A : Type 0} (x : Shown) (waits : Waits) (r : Reply A) : Type 0 where
  pub fits : IsReplyTo x.config waits r
  pub tells : ReplyTells x waits r
  pub shows : Shows x waits r

-- there is a reply to a call, and none only where the tables do not bear it (5.3 to 5.4.3)
abbrev pub RepliesWhere : {A : Type 0} → Type 0 → Shown → Waits → Option (Reply A) → Type 0
RepliesWhere bears x waits told = MatchOption told (bears → ⊥) (λ r. IsReplied x waits r)

-- the class whose preparation asked for a list is prepared by this step (5.4.2)
abbrev pub PreparesBy : Sprung → Step → Type 0
PreparesBy (OfReference d c index) e = ⊥
PreparesBy (OfPreparation l) e = e ≡ Prepare l.own.class

-- a finding settles its reference by this step (5.4.3)
abbrev pub SettlesBy : Shown → Answered → Step → Type 0
SettlesBy x f e = (s : Settled) × IsToSettle x f s
    × (e ≡ Settle s.class s.index (verdict_of s.verdict))

-- the equality at a place of a list is imposed by this step (5.3.4)
abbrev pub ImposesBy : Listed → ℕ → Step → Type 0
ImposesBy l k e = (n : Equality) × (slice_get l.needs k ≡ Some n) × (e ≡ step_for (equal_need n))

-- a class is recorded by this step (5.3.5, step 5)
abbrev pub DefinesByStep : Drafted → Step → Type 0
DefinesByStep d e = e ≡ Define d.class

-- a loader that was asked is recorded by this step (5.3)
abbrev pub InitiatesBy : Located → Step → Type 0
InitiatesBy h e = e ≡ Initiate h.name h.definer h.asked

-- the step that a call may add (5.3 to 5.4.3)
abbrev pub IsStepOf : {A : Type 0} → Shown → Turn A → Step → Type 0
IsStepOf x (turn.Define d) e = DefinesByStep d e
IsStepOf x (turn.Initiate h) e = InitiatesBy h.value e
IsStepOf x (turn.Settle f) e = SettlesBy x f e
IsStepOf x (turn.Impose l k) e = ImposesBy l.value k e
IsStepOf x (turn.Mark l) e = PreparesBy l.value.origin e
IsStepOf x other e = ⊥

-- a call changed nothing, or it added one step, such as this (5.3 to 5.4.3)
abbrev pub Did : Shown → Shown → (Step → Type 0) → Type 0
Did old new such = (new ≡ old) ⊎ ((e : Step) × such e × GoesBy old new e)

-- the reply that a refusal is; none for a value that does not fit the tables (5.3.4)
abbrev pub reply_of : {A : Type 0} → RegistryFault → Option (Reply A)
reply_of faults.Memory = Some reply.Memory
reply_of (faults.Violates n) = Some (reply.Refused n)
reply_of other = None

-- a call was made: what it did, and what the task is told of it; a source is read by a read alone (5.3 to 5.4.3)
pub record CallSays {A S : Type 0} (told : Option Content) (x new : Shown) (u : Turn A)
    (given : Reply A) (count later : ℕ) (since source : S) : Type 0 where
  pub call : IsCall u
  pub replied : IsReplied new (call_of u) given
  pub did : Did x new (IsStepOf x u)
  pub kept : IsKept told new
  pub faults : Grows (told_faults given) count later
  pub unread : (AsksForRead u → ⊥) → source ≡ since
