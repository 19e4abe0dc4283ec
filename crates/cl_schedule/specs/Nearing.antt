-- How near its answer a request is whose verdict the tables have, while requests take turns (JVMS SE 8, 5.3, 5.4.2, 5.4.3).
use Rattle.std.specs.Prelude.{◌≡◌, ◌<◌, ℕ, true, [], Some, Contains}
use Rattle.cl_model.specs.declared.class.Class.{Class}
use Rattle.cl_model.specs.declared.request.Request.{Request}
use Rattle.cl_model.specs.States.{State, Verdict, IsLinked, settled_to}
use Rattle.cl_model.specs.Views.{answer_of, verdict_of, request_of}
use Rattle.cl_findings.specs.Findings.{loader_of, name_of}
use Rattle.cl_tasks.specs.Tasks.{Tasked}
use Rattle.cl_tasks.specs.Turns.{KnowsOne}
use Rattle.cl_tasks.specs.Waits.{Looking, LookingPrepared}
use Rattle.cl_tasks.specs.declared.turn.Reply.{Reply}
use Rattle.cl_tasks.specs.declared.turn.Reply.TheVariants as reply
use Rattle.cl_tasks.specs.declared.turn.Turn.{Turn}
use Rattle.cl_tasks.specs.declared.turn.Turn.TheVariants as turn
use Rattle.cl_schedule.specs.Known.{HasVerdict, HasOf, SaysOrLacks}
use Rattle.cl_schedule.specs.Takings.{Measure}

-- ---- the way to a verdict that the tables have

-- what a task is told on its way to a verdict that the tables have (5.3, 5.4.2, 5.4.3)
abbrev pub AtHand : {A : Type 0} → State → Request → Verdict → Tasked → Reply A → Type 0
AtHand s r v t reply.Start = Unit {0}
AtHand s r v t (reply.Looked (Some row)) = (t.waits ≡ Looking (loader_of r) (name_of r))
    × (t.frames ≡ []) × (t.facts ≡ []) × HasOf s (request_of r) row.value.class v
AtHand s r v t (reply.LookedReference (Some e)) = verdict_of e.value.verdict ≡ v
AtHand s r v t (reply.LookedPrepared true) = (c : Class) × (t.waits ≡ LookingPrepared c)
    × (v ≡ IsLinked c) × KnowsOne t
AtHand s r v t reply.Memory = Unit {0}
AtHand s r v t other = ⊥

-- the calls on that way: a look for the request's class, and at its reference, or whether its class is prepared (5.3, 5.4.2, 5.4.3)
abbrev pub OwnCall : {A : Type 0} → State → Request → Verdict → Tasked → Turn A → Type 0
OwnCall s r v t (turn.Look l n) = (t.frames ≡ []) × (t.facts ≡ []) × (l ≡ loader_of r)
    × (n ≡ name_of r)
OwnCall s r v t (turn.LookReference c i) = settled_to s.settled c i ≡ Some v
OwnCall s r v t (turn.LookPrepared c) = Contains s.prepared c × (v ≡ IsLinked c) × KnowsOne t
OwnCall s r v t other = ⊥

-- a call on that way, or the post at its end
abbrev pub OnWay : {A : Type 0} → State → Request → Verdict → Tasked → Turn A → Type 0
OnWay s r v t (turn.Post f) = SaysOrLacks v (answer_of f.answer)
OnWay s r v t other = OwnCall s r v t other

-- how many calls are made on that way from one on, itself included
abbrev pub calls_from : {A : Type 0} → Turn A → ℕ
calls_from (turn.Look l n) = 2
calls_from (turn.Post f) = 0
calls_from other = 1

-- and how many after a reply
abbrev pub calls_after : {A : Type 0} → Reply A → ℕ
calls_after reply.Start = 2
calls_after (reply.Looked row) = 1
calls_after other = 0

-- a request is on its way, and will have its answer once it was taken so often: it has fewer calls to make (5.3, 5.4.2, 5.4.3)
pub record IsNear {A : Type 0} (s : State) (r : Request) (v : Verdict) (n : ℕ) (t : Tasked)
    (u : Turn A) : Type 0 where
  pub way : OnWay s r v t u
  pub calls : calls_from u < n

-- ---- the measure

-- a request whose verdict the tables have is taken three times at most, and then answered so, or out of memory (5.3, 5.4.2, 5.4.3)
abbrev pub by_verdict : {A : Type 0} → Measure A
by_verdict = record {
  Known = Verdict;
  Fits = HasVerdict;
  all = λ v. 3;
  Within = λ s r v n seat.
      IsNear s r v n seat.task seat.call;
  Says = SaysOrLacks;
}
