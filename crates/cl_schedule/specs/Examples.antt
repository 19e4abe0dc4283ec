-- The words of the worked examples: reports of two requests, and choices among requests (JVMS SE 8, 5.3 to 5.4.3).
use Rattle.std.specs.Prelude.{ℕ, List, [], ◌∷◌, map, Option, codes}
use Rattle.std.specs.declared.alloc.Global.{Global}
use Rattle.std.specs.declared.sync.Arc.{Arc}
use Rattle.cl_model.specs.declared.answer.Answer.{Answer}
use Rattle.cl_model.specs.declared.answer.Answer.TheVariants as answers
use Rattle.cl_model.specs.declared.event.Event.{Event}
use Rattle.cl_model.specs.declared.event.Event.TheVariants as events
use Rattle.cl_model.specs.declared.request.Request.{Request}
use Rattle.cl_model.specs.declared.request.Request.TheVariants as requests
use Rattle.cl_model.specs.declared.verdict.ErrorKind.{ErrorKind}
use Rattle.cl_model.specs.declared.verdict.ErrorKind.TheVariants as kinds
use Rattle.cl_model.specs.declared.verdict.Verdict.TheVariants as verdicts
use Rattle.cl_model.specs.Content.{Content}
use Rattle.cl_model.specs.Machine.{Scheduled, Setting, Define, after, state_after}
use Rattle.cl_model.specs.States.{State, start}
use Rattle.cl_model.specs.Examples.{boot, in_boot, load_of, world_with_files}
use Rattle.cl_model.specs.ExampleServices.{failed_post}
use Rattle.cl_config.specs.declared.order.Order.TheVariants.{ParentFirst}
use Rattle.cl_config.specs.Views.{Configured, Scripted}
use Rattle.cl_registry.specs.declared.report.Report.{Report}
use Rattle.cl_registry.specs.Tables.{Shown}
use Rattle.cl_schedule.specs.Choices.{Piece, piece}
use Rattle.cl_schedule.specs.Headline.{IsServed}
use Rattle.cl_schedule.specs.Serving.{reported_registry}

-- ---- reports

-- a loader by itself (5.3)
abbrev pub lone : Configured
lone = record {
  loaders = record {
    name = codes "boot";
    dir = [];
    parents = [];
    order = ParentFirst;
    imports = [];
  } ∷ [];
}

-- two requests, in the first of so many rounds
abbrev pub two : Request → Request → ℕ → Scripted
two a b rounds = record { requests = a ∷ b ∷ []; rounds_of = 0 ∷ 0 ∷ []; rounds = rounds }

-- a load of p/T (5.3)
abbrev pub load_t : Request
load_t = requests.Load boot (codes "p/T")

-- an entry of p/T, through a loader (5.4.3)
abbrev pub resolve_t : ℕ → Request
resolve_t loader = requests.Resolve loader (codes "p/T") 1

-- two loads of it, in one round
abbrev pub two_loads : Scripted
two_loads = two load_t load_t 1

-- an error about p/T (5.3.5)
abbrev pub error_t : ErrorKind → Answer
error_t kind = answers.Said (verdicts.Error kind (in_boot "p/T"))

-- nobody has p/T (5.3.1)
abbrev pub not_found : Answer
not_found = error_t kinds.ClassNotFoundException

-- the error of a class that is not found as a supertype (5.3.5, steps 3 and 4)
abbrev pub no_class : Answer
no_class = error_t kinds.NoClassDefFoundError

-- both requests are posted, the second one first
abbrev pub both_posted : List Event
both_posted = events.Post 1 ∷ events.Post 0 ∷ []

-- p/T is defined, and both are posted in order (5.3.5)
abbrev pub defined_and_posted : List Event
defined_and_posted = events.Define (in_boot "p/T") ∷ events.Post 0 ∷ events.Post 1 ∷ []

-- the report of a script, wherever that lies
abbrev pub report : Arc Scripted Global → Scripted → List Event → List Answer → Report
report at s es given = record { script = record at { value = s }; history = es; answers = given }

-- a script is not served so, where this is told
abbrev pub Unserved : Option Content → Scripted → List Event → List Answer → Type 0
Unserved told script history answers =
    (at : Arc Scripted Global) → IsServed told lone script (report at script history answers) → ⊥

-- this does not hold of a script that is reported so
abbrev pub Breaks : (Shown → Type 0) → Scripted → List Event → List Answer → Type 0
Breaks P script history answers =
    (at : Arc Scripted Global) → P (reported_registry lone (report at script history answers)) → ⊥

-- ---- choices

-- loads of p/T, one of each of these rounds
abbrev pub loads_of : List ℕ → List Scheduled
loads_of rounds = map (λ n. record { request = load_of boot "p/T"; round = n }) rounds

-- the same where nobody has p/T, in so many rounds
abbrev pub loads : List ℕ → ℕ → Setting
loads rs rounds = record { world = world_with_files []; script = loads_of rs; rounds = rounds }

-- one of the first round of two
abbrev pub one_load : Setting
one_load = loads (0 ∷ []) 2

-- two in one round
abbrev pub pair : Setting
pair = loads (0 ∷ 0 ∷ []) 1

-- three choices: the second request is posted, then the first, and nobody waits any more
abbrev pub three_pieces : List Piece
three_pieces =
    piece pair.script start 3 (failed_post 1 ∷ []) []
    ∷ piece pair.script (after start (failed_post 1)) 5 (failed_post 0 ∷ []) []
    ∷ piece pair.script (state_after start (failed_post 1 ∷ failed_post 0 ∷ [])) 2 [] []
    ∷ []

-- p/T is recorded (5.3)
abbrev pub recorded : State
recorded = after start (Define (in_boot "p/T"))

-- a choice of the one load makes no step
abbrev pub idle : State → Piece
idle s = piece one_load.script s 0 [] []
