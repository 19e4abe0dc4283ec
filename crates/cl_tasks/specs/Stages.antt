-- What a task is at, as contracts see it, and what it keeps (JVMS SE 8, 5.3 to 5.4.3).
use Rattle.std.specs.Prelude.{◌≡◌, ◌≢◌, ◌<◌, ◌+◌, ◌-◌, ◌++◌, ◌∷◌, ℕ, false, List, [], length, map, take, drop, Option, Some, None, slice_get, unwrap_or}
use Rattle.std.specs.declared.alloc.Global.{Global}
use Rattle.std.specs.declared.sync.Arc.{Arc}
use Rattle.cl_model.specs.declared.class.Class.{Class}
use Rattle.cl_model.specs.declared.answer.Answer.TheVariants as answers
use Rattle.cl_model.specs.declared.verdict.Verdict as verdict
use Rattle.cl_model.specs.declared.verdict.Verdict.TheVariants as verdicts
use Rattle.cl_model.specs.declared.request.Request.{Request}
use Rattle.cl_model.specs.declared.request.Request.TheVariants as requests
use Rattle.cl_model.specs.Content.{Content}
use Rattle.cl_model.specs.Lineages.{lineage}
use Rattle.cl_model.specs.States.{Need}
use Rattle.cl_model.specs.Works.{Ask}
use Rattle.cl_config.specs.Views.{Configured}
use Rattle.cl_delegation.specs.declared.search.Home.{Home}
use Rattle.cl_delegation.specs.Searches.{Searched, Located, next_of, route_of}
use Rattle.cl_hierarchy.specs.Frames.{frame_of}
use Rattle.cl_hierarchy.specs.Imposed.{Listed, Sprung, OfPreparation, OfReference, needs_of}
use Rattle.cl_hierarchy.specs.Lineages.{Lined, kin_of, rows_in}
use Rattle.cl_hierarchy.specs.Drafts.{home_class}
use Rattle.cl_hierarchy.specs.Paths.{Pathed, at_loader, at_name, frames_of, is_on, sought_class}
use Rattle.cl_findings.specs.declared.load.Target.{Target}
use Rattle.cl_findings.specs.declared.load.Target.TheVariants as targets
use Rattle.cl_findings.specs.declared.load.NextRecord.TheVariants as nexts
use Rattle.cl_findings.specs.Findings.{Based, Resolves, Rests, loader_of, name_of}
use Rattle.cl_findings.specs.Bases.{IsSpeltIn}
use Rattle.cl_findings.specs.Loads.{IsFor, IsSought, home_record, ComesNext, LooksFor, IsWhole}
use Rattle.cl_findings.specs.References.{AreLinked, GoesTo, class_need, reference_needs}
use Rattle.cl_tasks.specs.Calls.{Calls, ask_for, ask_of, away_calls, hand_calls, in_hand, link_calls, own_calls, past_loads, reference_calls, while_loading}
use Rattle.cl_tasks.specs.Measures.{Phase, Fresh, Looking, Reading, Homing, Defining, Initiating, left_at, named_left, own_left, checking_left, reference_left, tracing_own_left, tracing_named_left, imposing_left, settling_left, prepared_left, whole_left, chain_left, linking_left}
use Rattle.cl_tasks.specs.Tasks.{Tasked, Fact, Stands, StandsRefused, HasLineage, IsPrepared}
use Rattle.cl_tasks.specs.Turns.{IsOf}
use Rattle.cl_tasks.specs.Waits.{Waits}
use Rattle.cl_tasks.specs.Waits as waits
use Rattle.cl_tasks.specs.declared.stage.Job.{Job}
use Rattle.cl_tasks.specs.declared.stage.Load.{Load}
use Rattle.cl_tasks.specs.declared.stage.Load.TheVariants as loads
use Rattle.cl_tasks.specs.declared.stage.Entry as entries
use Rattle.cl_tasks.specs.declared.stage.Failed.{Failed}
use Rattle.cl_tasks.specs.declared.stage.Member.{Member}
use Rattle.cl_tasks.specs.declared.stage.Resolution.{Resolution}
use Rattle.cl_tasks.specs.declared.stage.Resolution.TheVariants as resolutions
use Rattle.cl_tasks.specs.declared.stage.Goal.{Goal}
use Rattle.cl_tasks.specs.declared.stage.Chain.{Chain}
use Rattle.cl_tasks.specs.declared.stage.Link.{Link}
use Rattle.cl_tasks.specs.declared.stage.Link.TheVariants as links
use Rattle.cl_tasks.specs.declared.stage.Stage.{Stage}
use Rattle.cl_tasks.specs.declared.stage.Stage.TheVariants as stages

-- ---- loads

-- the loader that a search asks next
abbrev pub next_loader : Searched → ℕ
next_loader s = unwrap_or (next_of s) 0

-- what was told before the load: nothing of a request's own class; of a reference's that the request's class is recorded (5.3, 5.4.3.1)
abbrev pub target_facts : {A : Type 0} → Request → Target A → List Fact
target_facts r targets.Own = []
target_facts r (targets.Reference d) = Stands (class_need r d.value.class) ∷ []

-- how many turns are left past the load (5.4, 5.4.3)
abbrev pub past_left : {A : Type 0} → Target A → ℕ
past_left targets.Own = own_left
past_left (targets.Reference d) = named_left

-- how many probes a search has left at most (5.3.2)
abbrev pub probes_left : Searched → ℕ
probes_left s = length (route_of s) - length s.absent

-- how many calls are left past the load (5.4, 5.4.3)
abbrev pub past_calls : {A : Type 0} → Request → Target A → Calls
past_calls r targets.Own = own_calls r
past_calls r (targets.Reference d) = reference_calls

-- what is looked for where it is asked for (5.3.2)
abbrev pub sought_ask : Pathed → Ask
sought_ask p = ask_of (at_name p) (at_loader p)

-- the calls that are left of a job: of what is still to be recorded, of what it has in hand, these beside it, so many more, and of what
-- follows its load (5.3 to 5.4.3)
abbrev pub job_calls : {A : Type 0} → List Ask → List Ask → ℕ → Job A → Calls
job_calls absent beside more j =
    while_loading absent (beside ++ in_hand j.path.loader (frames_of j.path))
    (hand_calls j.path.loader (frames_of j.path) + more) (past_calls j.request j.target)

-- a task that loads a class
abbrev pub at_work : {A : Type 0} → Configured → Waits → Phase → ℕ → Calls → Job A → Tasked
at_work c w phase probes calls j = record {
  config = c;
  q = j.q;
  request = Some j.request;
  waits = w;
  frames = frames_of j.path;
  absent = None;
  facts = target_facts j.request j.target;
  left = past_left j.target + left_at phase (frames_of j.path) probes;
  calls = calls;
}

-- what contracts see of a load; a class that is being recorded is the last of those that are derived
abbrev pub loading_at : {A : Type 0} → Configured → Load A → Tasked
loading_at c (loads.Fresh j) = at_work c waits.Beginning Fresh 0 (job_calls [] [] 1 j) j
loading_at c (loads.Looking j) = at_work c (waits.Looking (at_loader j.path) (at_name j.path))
    Looking 0 (job_calls [] [] 1 j) j
loading_at c (loads.Searching j s) =
    record (at_work c (waits.Reading (next_loader s) (at_name j.path)) Reading (probes_left s)
    (job_calls (sought_ask j.path ∷ []) [] 0 j) j) { absent = Some (sought_class j.path) }
loading_at c (loads.Homing j h) = at_work c (waits.Looking h.definer (at_name j.path)) Homing 0
    (job_calls [] (sought_ask j.path ∷ []) 2 j) j
loading_at c (loads.Defining j x) =
    record (at_work c (waits.Defining x.draft) Defining 0
    (job_calls [] (sought_ask j.path ∷ ask_for x.draft.class ∷ [])
    (1 + away_calls (at_loader j.path) x.draft.class.loader) j) j)
    { frames = frames_of j.path ++ frame_of x ∷ [] }
loading_at c (loads.Initiating j h) =
    record (at_work c (waits.Initiating h.value) Initiating 0
    (job_calls [] (sought_ask j.path ∷ []) 1 j) j)
    { facts = Stands (home_record h.value) ∷ target_facts j.request j.target }

-- ---- resolutions

-- a task whose request's class is recorded, or cannot be
abbrev pub settled_down : Configured → ℕ → Request → Waits → List Fact → ℕ → Calls → Tasked
settled_down c q r w facts left calls = record {
  config = c;
  q = q;
  request = Some r;
  waits = w;
  frames = [];
  absent = None;
  facts = facts;
  left = left;
  calls = calls;
}

-- the need that is refused, if one is (5.3.4)
abbrev pub refused_facts : Option Need → List Fact
refused_facts None = []
refused_facts (Some n) = StandsRefused n ∷ []

-- what an answer rests on was told (5.3 to 5.4.3)
abbrev pub basis_facts : Option Based → List Fact
basis_facts None = []
basis_facts (Some b) = map (λ n. Stands n) b.needs ++ refused_facts b.refused

-- the request's class is recorded (5.3)
abbrev pub entry_facts : {A : Type 0} → entries.Entry A → List Fact
entry_facts e = Stands (class_need e.request e.d.value.class) ∷ []

-- and so is the class that its entry names, by the loader that defined the first (5.3, 5.4.3.1)
abbrev pub named_facts : Request → Class → Class → List Fact
named_facts r d c = map (λ n. Stands n) (reference_needs r d c)

-- the first so many equalities of a list are imposed (5.3.4)
abbrev pub imposed_facts : Listed → ℕ → List Fact
imposed_facts e k = map (λ n. Stands n) (take k (needs_of e.needs))

-- of a member the two classes are recorded, and these are their lineages (5.4.3.2 to 5.4.3.4)
abbrev pub member_facts : {A : Type 0} → Member A → List Fact
member_facts m =
    named_facts m.entry.request m.found.d.own.class m.found.c.own.class ++ HasLineage m.found.d
    ∷ HasLineage m.found.c ∷ []

-- what contracts see of a resolution
abbrev pub resolving_at : {A : Type 0} → Configured → Resolution A → Tasked
resolving_at c (resolutions.Checking f) =
    settled_down c f.q f.request (waits.Looking (loader_of f.request) (name_of f.request))
    (basis_facts f.finding.basis) checking_left (past_loads 0 0 2)
resolving_at c (resolutions.LookingReference e) = settled_down c e.q e.request
    (waits.LookingReference e.d.value.class e.index) (entry_facts e) reference_left
    (while_loading [] [] 2 reference_calls)
resolving_at c (resolutions.TracingOwn e k) =
    settled_down c e.q e.request (waits.Tracing e.d.value.class)
    (named_facts e.request e.d.value.class k.value.class) tracing_own_left reference_calls
resolving_at c (resolutions.TracingNamed e l k) =
    settled_down c e.q e.request (waits.Tracing k.value.class)
    (named_facts e.request e.d.value.class k.value.class ++ HasLineage l ∷ []) tracing_named_left
    (past_loads 0 1 3)
resolving_at c (resolutions.Imposing m k) =
    settled_down c m.entry.q m.entry.request (waits.Imposing m.equalities.value k)
    (member_facts m ++ imposed_facts m.equalities.value k)
    (imposing_left (length m.equalities.value.needs - k))
    (past_loads 0 0 ((length m.equalities.value.needs - k) + 2))
resolving_at c (resolutions.Settling e) = settled_down c e.q e.request (waits.Settling e.request)
    (entry_facts e) settling_left (past_loads 0 0 2)

-- ---- links

-- the request's class is recorded (5.3)
abbrev pub goal_facts : {A : Type 0} → Goal A → List Fact
goal_facts g = Stands (class_need g.request g.class.value.class) ∷ []

-- the classes of a lineage in order (5.4)
abbrev pub classes_in : Lined → List Class
classes_in l = map (λ r. r.class) (rows_in l)

-- this is the lineage of the class that is linked, and those before a place in it are prepared (5.4)
abbrev pub chain_facts : {A : Type 0} → Chain A → List Fact
chain_facts c = goal_facts c.goal ++ (HasLineage c.whole
    ∷ map (λ k. IsPrepared k) (take c.place (classes_in c.whole)))

-- the class at a place of a lineage; the last one past the end
abbrev pub class_in : Lined → ℕ → Class
class_in l place = unwrap_or (slice_get (classes_in l) place) l.own.class

-- how many classes of the lineage stand at a place and behind it
abbrev pub behind : {A : Type 0} → Chain A → ℕ
behind c = length (rows_in c.whole) - c.place

-- the lineages that a list was made from (5.4.2, 5.4.3)
abbrev pub sprung_facts : Sprung → List Fact
sprung_facts (OfReference d c index) = HasLineage d ∷ HasLineage c ∷ []
sprung_facts (OfPreparation l) = HasLineage l ∷ []

-- the same of a list
abbrev pub traced_facts : Listed → List Fact
traced_facts e = sprung_facts e.origin

-- the calls that are left of a link from a place in its lineage on (5.4.2)
abbrev pub chain_calls : Lined → ℕ → ℕ
chain_calls l place = link_calls (drop place (lineage (kin_of l)))

-- and of the rest of a list, its class's preparation, the classes behind it, and the post (5.4.2)
abbrev pub list_calls : Lined → ℕ → ℕ → ℕ
list_calls l place equalities = chain_calls l (place + 1) + (equalities + 2)

-- what contracts see of a link
abbrev pub linking_at : {A : Type 0} → Configured → Link A → Tasked
linking_at c (links.LookingPrepared g) = settled_down c g.q g.request
    (waits.LookingPrepared g.class.value.class) (goal_facts g) prepared_left (past_loads 2 1 4)
linking_at c (links.TracingWhole g) = settled_down c g.q g.request
    (waits.Tracing g.class.value.class) (goal_facts g) whole_left (past_loads 2 1 3)
linking_at c (links.Counting g l) = settled_down c g.q g.request (waits.CountingPrepared l)
    (goal_facts g ++ HasLineage l ∷ []) (chain_left (length (rows_in l)) + 1)
    (past_loads 0 0 (chain_calls l 0 + 2))
linking_at c (links.Tracing k) = settled_down c k.goal.q k.goal.request
    (waits.Tracing (class_in k.whole k.place)) (chain_facts k) (chain_left (behind k))
    (past_loads 0 0 (chain_calls k.whole k.place + 1))
linking_at c (links.Imposing k e i) =
    settled_down c k.goal.q k.goal.request (waits.Imposing e.value i)
    (chain_facts k ++ (traced_facts e.value ++ imposed_facts e.value i))
    (linking_left (behind k - 1) (length e.value.needs - i))
    (past_loads 0 0 (list_calls k.whole k.place (length e.value.needs - i)))
linking_at c (links.Marking k e) =
    settled_down c k.goal.q k.goal.request (waits.Marking e.value)
    (chain_facts k ++ (traced_facts e.value ++ imposed_facts e.value (length e.value.needs)))
    (linking_left (behind k - 1) 0)
    (past_loads 0 0 (list_calls k.whole k.place 0))

-- ---- all

-- a task whose request has its answer
abbrev pub done_at : Configured → ℕ → Tasked
done_at c q = record {
  config = c;
  q = q;
  request = None;
  waits = waits.Ended;
  frames = [];
  absent = None;
  facts = [];
  left = 0;
  calls = past_loads 0 0 1;
}

-- what contracts see of each stage
abbrev pub task_at : {A : Type 0} → Configured → Stage A → Tasked
task_at c (stages.Load l) = loading_at c l
task_at c (stages.Resolve r) = resolving_at c r
task_at c (stages.Link l) = linking_at c l
task_at c (stages.Done q) = done_at c q

-- ---- what each stage keeps

-- the path is the request's under this configuration, whose loaders it names; what it loads was named by a class whose bytes spell its file (5.3)
pub record IsJob {A : Type 0} (told : Option Content) (c : Configured) (j : Job A) : Type 0 where
  pub spelt : IsSpeltIn told j.target
  pub for_request : IsFor j.request j.target j.path
  pub config : j.path.config ≡ c
  pub asked : loader_of j.request < length c.loaders
  pub root : j.path.loader < length c.loaders
  pub loader : at_loader j.path < length c.loaders

-- the search is for what is looked for (5.3.2)
abbrev pub Seeks : {A : Type 0} → Job A → Searched → Type 0
Seeks j s = LooksFor j.path s.config s.loader s.name

-- the same, and it has another loader to ask (5.3.2)
pub record IsSearch {A : Type 0} (j : Job A) (s : Searched) : Type 0 where
  pub seeks : Seeks j s
  pub next : next_of s ≢ None

-- what is looked for was found at another loader, and is not being derived (5.3.2)
pub record IsHoming {A : Type 0} (j : Job A) (h : Located) : Type 0 where
  pub sought : IsSought j.path h
  pub off : is_on j.path (home_class h) ≡ false
  pub other : h.definer ≢ at_loader j.path

-- the record of the loader that was asked comes next, of the class of this home (5.3)
abbrev pub InitiatesNext : {A : Type 0} → Option Content → Job A → Arc (Home A) Global → Type 0
InitiatesNext {A} told j h = ComesNext {A = A} told j.path (nexts.Initiate h)

-- a job at its beginning: the request's own class is loaded, and nothing is derived yet (5.3)
pub record JobBegins {A : Type 0} (j : Job A) : Type 0 where
  pub own : target_facts j.request j.target ≡ []
  pub alone : j.path.frames ≡ []

-- what a load keeps (5.3, 5.3.5)
abbrev pub IsLoading : {A : Type 0} → Option Content → Configured → Load A → Type 0
IsLoading told c (loads.Fresh j) = IsJob told c j × JobBegins j
IsLoading told c (loads.Looking j) = IsJob told c j
IsLoading told c (loads.Searching j s) = IsJob told c j × IsSearch j s
IsLoading told c (loads.Homing j h) = IsJob told c j × IsHoming j h
IsLoading told c (loads.Defining j x) = IsJob told c j × IsWhole told j.path x
IsLoading told c (loads.Initiating j h) = IsJob told c j × InitiatesNext told j h

-- the same request, but to load its class alone (5.3)
abbrev pub load_alone : Request → Request
load_alone r = requests.Load (loader_of r) (name_of r)

-- a verdict that is an error, or a refused need (5.3.4, 5.3.5)
abbrev pub IsFailure : verdict.Verdict → Type 0
IsFailure (verdicts.Error kind c) = Unit {0}
IsFailure (verdicts.Linkage n) = Unit {0}
IsFailure other = ⊥

-- the load of the class of a resolution ends in a verdict, whatever the request asks past it (5.3, 5.4.3)
pub record IsFailed {A : Type 0} (told : Option Content) (c : Configured)
    (f : Failed A) : Type 0 where
  pub index : ℕ
  pub resolves : Resolves f.request (name_of f.request) index
  pub same : f.finding.request ≡ f.request
  pub asked : loader_of f.request < length c.loaders
  pub verdict : verdict.Verdict
  pub said : f.finding.answer ≡ answers.Said verdict
  pub basis : Based
  pub rests_on : f.finding.basis ≡ Some basis
  pub config : basis.config ≡ c
  pub unprepared : basis.prepared ≡ []
  pub failure : IsFailure verdict
  pub own : Rests told (record f.finding { request = load_alone f.request })

-- the request resolves the entry at an index of the pool of a class (5.4.3)
pub record IsEntry {A : Type 0} (c : Configured) (e : entries.Entry A) : Type 0 where
  pub of : Resolves e.request e.d.value.class.name e.index
  pub asked : loader_of e.request < length c.loaders

-- a member that the request's entry asks for, with its equalities, and this one is to be imposed (5.4.3.2 to 5.4.3.4)
pub record IsMember {A : Type 0} (c : Configured) (m : Member A) : Type 0 where
  pub entry : IsEntry c m.entry
  pub own : IsOf c m.entry.d.value.class m.found.d
  pub index : m.found.index ≡ m.entry.index
  pub reference : GoesTo m.entry.request m.found.d m.found.c m.found.index
  pub origin : m.equalities.value.origin ≡ OfReference m.found.d m.found.c m.found.index

-- what a resolution keeps (5.4.3)
abbrev pub IsResolving : {A : Type 0} → Option Content → Configured → Resolution A → Type 0
IsResolving told c (resolutions.Checking f) = IsFailed told c f
IsResolving told c (resolutions.LookingReference e) = IsEntry c e
IsResolving told c (resolutions.TracingOwn e k) = IsEntry c e
IsResolving told c (resolutions.TracingNamed e l k) = IsEntry c e × IsOf c e.d.value.class l
IsResolving told c (resolutions.Imposing m k) = IsMember c m × (k < length m.equalities.value.needs)
IsResolving told c (resolutions.Settling e) = IsEntry c e

-- the request links the class (5.4)
pub record IsGoal {A : Type 0} (c : Configured) (g : Goal A) : Type 0 where
  pub of : g.request ≡ requests.Link (loader_of g.request) g.class.value.class.name
  pub asked : loader_of g.request < length c.loaders

-- the lineage is that of the class that is linked, and a class of it stands at the place (5.4)
pub record IsChain {A : Type 0} (c : Configured) (k : Chain A) : Type 0 where
  pub goal : IsGoal c k.goal
  pub whole : IsOf c k.goal.class.value.class k.whole
  pub within : k.place < length (rows_in k.whole)

-- the equalities are those of the class at the place (5.4.2)
abbrev pub IsAtPlace : {A : Type 0} → Chain A → Listed → Type 0
IsAtPlace k e = AreLinked k.goal.request k.whole k.place e.origin

-- what a link keeps (5.4.2)
abbrev pub IsLinking : {A : Type 0} → Configured → Link A → Type 0
IsLinking c (links.LookingPrepared g) = IsGoal c g
IsLinking c (links.TracingWhole g) = IsGoal c g
IsLinking c (links.Counting g l) = IsGoal c g × IsOf c g.class.value.class l
IsLinking c (links.Tracing k) = IsChain c k
IsLinking c (links.Imposing k e i) = IsChain c k × IsAtPlace k e.value × (i < length e.value.needs)
IsLinking c (links.Marking k e) = IsChain c k × IsAtPlace k e.value

-- what each stage keeps (5.3 to 5.4.3)
abbrev pub IsStage : {A : Type 0} → Option Content → Configured → Stage A → Type 0
IsStage told c (stages.Load l) = IsLoading told c l
IsStage told c (stages.Resolve r) = IsResolving told c r
IsStage told c (stages.Link l) = IsLinking c l
IsStage told c (stages.Done q) = Unit {0}
