-- Whom a fault of the source may blame (JVMS SE 8, 5.3 to 5.4.3).
use Rattle.std.specs.Prelude.{ℕ, List, Option, IfSome, Contains}
use Rattle.cl_model.specs.declared.answer.Answer.{Answer}
use Rattle.cl_model.specs.declared.answer.Answer.TheVariants as answers
use Rattle.cl_model.specs.declared.request.Request.{Request}
use Rattle.cl_model.specs.Classes.{class}
use Rattle.cl_model.specs.Content.{Content}
use Rattle.cl_model.specs.Machine.{Setting, IsPlan}
use Rattle.cl_model.specs.Plans.{Plan}
use Rattle.cl_model.specs.Views.{request_of}
use Rattle.cl_model.specs.Works.{Ask}
use Rattle.cl_config.specs.Views.{Configured}
use Rattle.cl_registry.specs.Tables.{Shown, state_of}
use Rattle.cl_tasks.specs.Calls.{ask_of}
use Rattle.cl_tasks.specs.Follows.{ServedIn, Tells}
use Rattle.cl_tasks.specs.Tasks.{Tasked}
use Rattle.cl_tasks.specs.Turns.{way_of}
use Rattle.cl_tasks.specs.declared.turn.Reply.{Reply}
use Rattle.cl_tasks.specs.declared.turn.Reply.TheVariants as reply
use Rattle.cl_tasks.specs.declared.turn.Turn.{Turn}
use Rattle.cl_tasks.specs.declared.turn.Turn.TheVariants as turn

-- a loader is blamed for a name: it stands on the way of the name from a loader that is asked for it (5.3.2)
pub record IsBlamed (c : Configured) (asks : Ask → Type 0) (name : List ℕ)
    (loader : ℕ) : Type 0 where
  pub from : ℕ
  pub asked : asks (ask_of name from)
  pub on_way : Contains (way_of c (class name from)) loader

-- an answer that is a fault of the source blames such a loader (5.3.2)
abbrev pub AnswerBlames : Configured → (Ask → Type 0) → Answer → Type 0
AnswerBlames c asks (answers.Said v) = Unit {0}
AnswerBlames c asks (answers.Shared settled) = Unit {0}
AnswerBlames c asks answers.Memory = Unit {0}
AnswerBlames c asks (answers.SourceFault name loader) = IsBlamed c asks name loader

-- wherever the request is served and this holds, its plan asks a loader for a name (5.3 to 5.4.3)
abbrev pub AsksWhere : Option Content → Configured → (Shown → Type 0) → Request → Ask → Type 0
AsksWhere told c holds r a =
    (g : Setting) (x : Shown) (p : Plan) → ServedIn told c g (state_of x)
    → IsPlan g.world (request_of r) p → holds x → Contains p.asked a

-- a turn that posts a fault of the source blames such a loader (5.3.2)
abbrev pub TurnBlames : {A : Type 0} → Configured → (Ask → Type 0) → Turn A → Type 0
TurnBlames c asks (turn.Post f) = AnswerBlames c asks f.answer
TurnBlames c asks other = Unit {0}

-- it blames one on the way of a name which the plan asks for, where the request is served and this holds (5.3.2)
abbrev pub BlamesWhere : {A : Type 0} → Option Content → Configured → (Shown → Type 0) → Request
    → Turn A → Type 0
BlamesWhere told c holds r u = TurnBlames c (AsksWhere told c holds r) u

-- the same of a turn that is told such a fault (5.3.2)
abbrev pub FaultBlames : {A : Type 0} → Option Content → Tasked → Reply A → Turn A → Type 0
FaultBlames {A} told t (reply.SourceFault fault) u = IfSome t.request
    (λ r. BlamesWhere told t.config (λ x. Tells {A = A} x t (reply.SourceFault fault)) r u)
FaultBlames {A} told t other u = Unit {0}
