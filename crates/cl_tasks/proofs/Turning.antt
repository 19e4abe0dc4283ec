-- What a turn of a task is, by the step that it is.
use Rattle.std.proofs.Common.{◌≡◌, ◌∙◌, ◌<◌, ℕ, Option, Some, refl, sym, subst}
use Rattle.std.specs.Prelude.{IfSome}
use Rattle.cl_model.specs.declared.request.Request.{Request}
use Rattle.cl_model.specs.Content.{Content}
use Rattle.cl_config.specs.Views.{Configured}
use Rattle.cl_registry.specs.Tables.{Shown}
use Rattle.cl_tasks.specs.Blames.{BlamesWhere}
use Rattle.cl_tasks.specs.Facts.{Holds}
use Rattle.cl_tasks.specs.Follows.{AreLeft, BackedWhere, CallsWithin, EndsRefused, FollowsWhere, LacksOnly, Refuses, Tells, TellsNow, made_by, refusal}
use Rattle.cl_tasks.specs.Stages.{IsStage, linking_at, loading_at, resolving_at, task_at}
use Rattle.cl_tasks.specs.Steps.{LeadsOn, Steps, task_room}
use Rattle.cl_tasks.specs.Tasks.{Tasked, begun_task}
use Rattle.cl_tasks.specs.Turns.{AnswersOwn, Asks, DerivesUnrecorded, Expects, IsReplyTo, KeepsRequest, ReadsUnrecorded}
use Rattle.cl_tasks.specs.Waits as waits
use Rattle.cl_tasks.specs.declared.stage.Link.{Link}
use Rattle.cl_tasks.specs.declared.stage.Link.TheVariants as links
use Rattle.cl_tasks.specs.declared.stage.Load.{Load}
use Rattle.cl_tasks.specs.declared.stage.Load.TheVariants as loads
use Rattle.cl_tasks.specs.declared.stage.Next.{Next}
use Rattle.cl_tasks.specs.declared.stage.Resolution.{Resolution}
use Rattle.cl_tasks.specs.declared.stage.Resolution.TheVariants as resolutions
use Rattle.cl_tasks.specs.declared.stage.Stage.{Stage}
use Rattle.cl_tasks.specs.declared.stage.Stage.TheVariants as stages
use Rattle.cl_tasks.specs.declared.turn.Reply.{Reply}
use Rattle.cl_tasks.specs.declared.turn.Reply.TheVariants as reply
use Rattle.cl_tasks.specs.declared.turn.Turn.{Turn}
use Rattle.cl_tasks.specs.declared.turn.Turn.TheVariants as turn
use Rattle.cl_tasks.proofs.Blaming.{reply_blames}
use Rattle.cl_tasks.proofs.Deriving.{derives_so}
use Rattle.cl_tasks.proofs.Left.{stage_left}
use Rattle.std.proofs.lemmas.Option.{none-some}

-- ---- no reply is one to the end

ended_begins : waits.Ended ≡ waits.Beginning → ⊥
ended_begins h = cc

pub ended_alone : {A : Type 0} (c : Configured) (r : Reply A) → IsReplyTo c waits.Ended r → ⊥
ended_alone c reply.Start h = ended_begins h
ended_alone c (reply.Refused n) h = none-some _ h
ended_alone c reply.Memory h = h refl
ended_alone c other h = h

-- ---- a task that expects a reply has its request

abbrev HasRequest : Tasked → Type 0
HasRequest t = (r : Request) × (t.request ≡ Some r)

load_has : {A : Type 0} (c : Configured) (l : Load A) → HasRequest (loading_at c l)
load_has c (loads.Fresh j) = (j.request, refl)
load_has c (loads.Looking j) = (j.request, refl)
load_has c (loads.Searching j s) = (j.request, refl)
load_has c (loads.Homing j h) = (j.request, refl)
load_has c (loads.Defining j x) = (j.request, refl)
load_has c (loads.Initiating j h) = (j.request, refl)

resolution_has : {A : Type 0} (c : Configured) (r : Resolution A) → HasRequest (resolving_at c r)
resolution_has c (resolutions.Checking f) = (f.request, refl)
resolution_has c (resolutions.LookingReference e) = (e.request, refl)
resolution_has c (resolutions.TracingOwn e k) = (e.request, refl)
resolution_has c (resolutions.TracingNamed e l k) = (e.request, refl)
resolution_has c (resolutions.Imposing m k) = (m.entry.request, refl)
resolution_has c (resolutions.Settling e) = (e.request, refl)

link_has : {A : Type 0} (c : Configured) (l : Link A) → HasRequest (linking_at c l)
link_has c (links.LookingPrepared g) = (g.request, refl)
link_has c (links.TracingWhole g) = (g.request, refl)
link_has c (links.Counting g l) = (g.request, refl)
link_has c (links.Tracing k) = (k.goal.request, refl)
link_has c (links.Imposing k e i) = (k.goal.request, refl)
link_has c (links.Marking k e) = (k.goal.request, refl)

has_request : {A : Type 0} (c : Configured) (s : Stage A) (r : Reply A) → Expects (task_at c s) r → HasRequest (task_at c s)
has_request c (stages.Load l) r h = load_has c l
has_request c (stages.Resolve x) r h = resolution_has c x
has_request c (stages.Link l) r h = link_has c l
has_request c (stages.Done q) r h = absurd (ended_alone c r h)

-- ---- its configuration stays

load_config : {A : Type 0} (c : Configured) (l : Load A) → (loading_at c l).config ≡ c
load_config c (loads.Fresh j) = refl
load_config c (loads.Looking j) = refl
load_config c (loads.Searching j s) = refl
load_config c (loads.Homing j h) = refl
load_config c (loads.Defining j x) = refl
load_config c (loads.Initiating j h) = refl

resolution_config : {A : Type 0} (c : Configured) (r : Resolution A) → (resolving_at c r).config ≡ c
resolution_config c (resolutions.Checking f) = refl
resolution_config c (resolutions.LookingReference e) = refl
resolution_config c (resolutions.TracingOwn e k) = refl
resolution_config c (resolutions.TracingNamed e l k) = refl
resolution_config c (resolutions.Imposing m k) = refl
resolution_config c (resolutions.Settling e) = refl

link_config : {A : Type 0} (c : Configured) (l : Link A) → (linking_at c l).config ≡ c
link_config c (links.LookingPrepared g) = refl
link_config c (links.TracingWhole g) = refl
link_config c (links.Counting g l) = refl
link_config c (links.Tracing k) = refl
link_config c (links.Imposing k e i) = refl
link_config c (links.Marking k e) = refl

pub config_is : {A : Type 0} (c : Configured) (s : Stage A) → (task_at c s).config ≡ c
config_is c (stages.Load l) = load_config c l
config_is c (stages.Resolve x) = resolution_config c x
config_is c (stages.Link l) = link_config c l
config_is c (stages.Done q) = refl

-- ---- the turn

-- a request that is served, whatever else is known of its task
serves_so : {A : Type 0} (c : Configured) (q : ℕ) (r : Request) (t new : Tasked) (n : Turn A) → t.request ≡ Some r → KeepsRequest (begun_task c q r) new n → KeepsRequest t new n
serves_so c q r t new (turn.Settle f) is h = subst (λ (o : Option Request). (o ≡ Some f.request) × (new.request ≡ o)) (sym is) h
serves_so c q r t new (turn.Post f) is h = subst (λ (o : Option Request). o ≡ Some f.request) (sym is) h
serves_so c q r t new other is h = subst (λ (o : Option Request). new.request ≡ o) (sym is) h

-- what a turn does
pub record Turns {A : Type 0} (told : Option Content) (c : Configured) (old : Tasked) (r : Reply A) (n : Next A) : Type 0 where
  pub kept : IsStage told c n.stage
  pub number : (task_at c n.stage).q ≡ old.q
  pub config : (task_at c n.stage).config ≡ old.config
  pub asks : Asks (task_at c n.stage) n.turn
  pub serves : KeepsRequest old (task_at c n.stage) n.turn
  pub left : (task_at c n.stage).left < old.left
  pub calls : IfSome old.request (λ q. CallsWithin told old.config (λ x. TellsNow x old r) q (made_by old.waits) (task_at c n.stage).calls old.calls)
  pub more : AreLeft (task_at c n.stage).calls
  pub keeps : (x : Shown) → Tells x old r → Holds x (task_at c n.stage)
  pub backed : BackedWhere old.config (λ x. TellsNow x old r) n.turn
  pub next : IfSome old.request (λ q. FollowsWhere told old.config (λ x. Tells x old r) q n.turn)
  pub refused : Refuses (refusal old r) n.turn
  pub linkage : EndsRefused old.request r n.turn
  pub lacks : LacksOnly old.request r n.turn
  pub blames : IfSome old.request (λ q. BlamesWhere told old.config (λ x. Tells x old r) q n.turn)
  pub reads : ReadsUnrecorded old r n.turn
  pub derives : DerivesUnrecorded old (task_at c n.stage) r n.turn
  pub own : AnswersOwn old (task_at c n.stage) r n.turn

turns_by : {A : Type 0} (told : Option Content) (c : Configured) (t : Tasked) (r : Reply A) (n : Next A) → t.config ≡ c → HasRequest t → Steps told t r n → Turns told c t r n
turns_by {A = A} told c t r n config has steps =
    let q = has.0 in
    let l : LeadsOn {A = A} told t.config t.q q (task_room t) (λ x. Tells {A = A} x t r) (λ x. TellsNow {A = A} x t r) n =
    subst (λ (o : Option Request). IfSome o (λ q. LeadsOn {A = A} told t.config t.q q (task_room t) (λ x. Tells {A = A} x t r) (λ x. TellsNow {A = A} x t r) n)) has.1 steps.leads in
    record {
      kept = subst (λ (d : Configured). IsStage told d n.stage) config l.kept;
      number = subst (λ (d : Configured). (task_at d n.stage).q ≡ t.q) config l.number;
      config = config_is c n.stage ∙ sym config;
      asks = subst (λ (d : Configured). Asks (task_at d n.stage) n.turn) config l.asks;
      serves = subst (λ (d : Configured). KeepsRequest t (task_at d n.stage) n.turn) config (serves_so t.config t.q q t (task_at t.config n.stage) n.turn has.1 l.serves);
      left = subst (λ (d : Configured). (task_at d n.stage).left < t.left) config l.left;
      calls =
          subst (λ (o : Option Request). IfSome o (λ q. CallsWithin told t.config (λ x. TellsNow {A = A} x t r) q (made_by t.waits) (task_at c n.stage).calls t.calls)) (sym has.1)
          (subst (λ (d : Configured). CallsWithin told t.config (λ x. TellsNow {A = A} x t r) q (made_by t.waits) (task_at d n.stage).calls t.calls) config l.calls);
      more = stage_left c n.stage;
      keeps = subst (λ (d : Configured). (x : Shown) → Tells {A = A} x t r → Holds x (task_at d n.stage)) config l.keeps;
      backed = l.backed;
      next = subst (λ (o : Option Request). IfSome o (λ q. FollowsWhere {A = A} told t.config (λ x. Tells {A = A} x t r) q n.turn)) (sym has.1) l.follows;
      refused = steps.refused;
      linkage = steps.linkage;
      lacks = steps.lacks;
      blames = reply_blames told t q r n.turn has.1 steps.refused steps.blames;
      reads = steps.reads;
      derives = subst (λ (d : Configured). DerivesUnrecorded t (task_at d n.stage) r n.turn) config (derives_so t.config t r n.stage n.turn l.asks steps.derives);
      own = subst (λ (d : Configured). AnswersOwn t (task_at d n.stage) r n.turn) config steps.own;
    }

-- the same of a task as contracts see it, whose stage was taken out, and the next one put in its place
pub turns : {A : Type 0} (told : Option Content) (c : Configured) (s taken put : Stage A) (old : Tasked) (r : Reply A) (n : Next A) → task_at c s ≡ old → Expects old r
    → taken ≡ s → Steps told (task_at c taken) r n → put ≡ n.stage → Turns told c old r (record { stage = put; turn = n.turn })
turns {A = A} told c s taken put old r n view expects is steps placed =
    let asked : Expects (task_at c s) r = subst (λ (t : Tasked). Expects t r) (sym view) expects in
    let done : Steps told (task_at c s) r n = subst (λ (u : Stage A). Steps told (task_at c u) r n) is steps in
    let made : Turns told c (task_at c s) r n = turns_by told c (task_at c s) r n (config_is c s) (has_request c s r asked) done in
    subst (λ (u : Stage A). Turns told c old r (record { stage = u; turn = n.turn })) (sym placed) (subst (λ (t : Tasked). Turns told c t r n) view made)
