-- What a load does on a reply, as a step.
use Rattle.std.proofs.Common.{◌≡◌, ◌∙◌, ◌<◌, ◌+◌, ℕ, List, [], ◌∷◌, ◌++◌, Option, Some, None, inl, inr, refl, sym, ap, subst, slice_get, arith}
use Rattle.std.proofs.Common.{Global}
use Rattle.std.specs.declared.sync.Arc.{Arc}
use Rattle.cl_model.specs.declared.answer.Answer.{Answer}
use Rattle.cl_model.specs.declared.answer.Answer.TheVariants as answers
use Rattle.cl_model.specs.declared.class.Class.{Class}
use Rattle.cl_model.specs.declared.need.Need as needs
use Rattle.cl_model.specs.declared.request.Request.{Request}
use Rattle.cl_model.specs.Classes.{class}
use Rattle.cl_model.specs.Content.{Content}
use Rattle.cl_model.specs.States.{Need, Refused}
use Rattle.cl_model.specs.Views.{need_of}
use Rattle.cl_model.proofs.Stacks.{kept_is_met}
use Rattle.cl_source.specs.declared.source.SourceFault.{SourceFault}
use Rattle.cl_config.specs.Views.{Configured}
use Rattle.cl_delegation.specs.declared.search.Home.{Home}
use Rattle.cl_delegation.specs.Searches.{Located, Searched}
use Rattle.cl_source.specs.Views.{Found}
use Rattle.cl_hierarchy.specs.declared.row.ClassRow.{ClassRow}
use Rattle.cl_hierarchy.specs.Drafts.{IsDraft}
use Rattle.cl_hierarchy.specs.Frames.{Framed, frame_of}
use Rattle.cl_hierarchy.specs.Paths.{IsPath, Pathed, at_loader, at_name, frames_of, sought_class}
use Rattle.cl_findings.specs.Loads.{IsFor, IsSought, IsWhole, next_need}
use Rattle.cl_findings.specs.declared.load.NextRecord.TheVariants as nexts
use Rattle.cl_registry.specs.Tables.{Shown, state_of}
use Rattle.cl_tasks.specs.Ends.{IsOwnTarget, RefusedOn}
use Rattle.cl_tasks.specs.Facts.{IsRecordedAs}
use Rattle.cl_tasks.specs.Calls.{ask_for, away_calls}
use Rattle.cl_tasks.specs.Deriving.{Derives, IsNone, IsPast, IsSoughtHere, IsUnfound}
use Rattle.cl_tasks.specs.Follows.{EndsAsRefused, ResolvesReference, Posts, PostsNoFault, Tells, TellsNow, fault_answer}
use Rattle.cl_tasks.specs.Measures.{left_at}
use Rattle.cl_tasks.specs.Measures as phases
use Rattle.cl_tasks.specs.Rooms.{Room, calls_at, calls_found, last_room, past_room, room_at}
use Rattle.cl_tasks.specs.Stages.{JobBegins, IsHoming, IsJob, IsSearch, job_calls, loading_at, next_loader, past_left, probes_left, sought_ask, task_at}
use Rattle.cl_tasks.specs.Steps.{FindsBy, FindsHome, FindsRow, HoldsOn, IsPlain, Leads, LeadsAt, LeadsFrom, LeadsHome, LeadsOn, LooksBy, ReadsAt, ReadsOn, Steps, task_room, way_on}
use Rattle.cl_tasks.specs.Tasks.{Tasked}
use Rattle.cl_tasks.specs.Turns.{GoesOnWith, IsBehind, IsReadNext, ReadsUnrecorded, WasAbsent, way_of}
use Rattle.cl_tasks.specs.Waits as waits
use Rattle.cl_tasks.specs.declared.stage.Job.{Job}
use Rattle.cl_tasks.specs.declared.stage.Load.TheVariants as loads
use Rattle.cl_tasks.specs.declared.stage.Next.{Next}
use Rattle.cl_tasks.specs.declared.turn.Reply.{Reply}
use Rattle.cl_tasks.specs.declared.turn.Reply.TheVariants as reply
use Rattle.cl_tasks.specs.declared.turn.Turn.{Turn}
use Rattle.cl_tasks.proofs.Begun.{begins_own, defined_own, home_any, initiated_own, looked_own}
use Rattle.cl_tasks.proofs.Blaming.{fault_blames}
use Rattle.cl_tasks.proofs.Deriving.{derived_first, derives_by, derives_more, past_derives}
use Rattle.cl_tasks.proofs.Fall.{joins_less}
use Rattle.cl_tasks.proofs.Keep.{frame_kept, have_first, have_last}
use Rattle.cl_tasks.proofs.Lacking.{fault_lacks, posts_one}
use Rattle.cl_tasks.proofs.Lead.{job_some, leads_more, plain_steps}
use Rattle.cl_tasks.proofs.Moves.{Holds, defined_holds, fewer_holds, found_holds, initiated_holds, past_made, unfound_holds, unrecorded_holds}
use Rattle.cl_tasks.proofs.Onward.{defining_calls, less_room}
use Rattle.cl_tasks.proofs.TurnCases.{of_reads}

-- under the configuration of the job's path
at_config : {A : Type 0} (told : Option Content) (c : Configured) (d : Configured) (q : ℕ) (r : Request) (room : Room) (holds now : Shown → Type 0) (n : Next A) → d ≡ c → LeadsOn told d q r room holds now n → LeadsOn told c q r room holds now n
at_config told c d q r room holds now n e l = subst (λ (k : Configured). LeadsOn told k q r room holds now n) e l

-- a turn that reads for what is looked for, of which it was told that its loader has no record
reads_along : {A : Type 0} (t : Tasked) (r : Reply A) (p : Pathed) (is : ℕ → Type 0) (u : Turn A) → WasAbsent t r (sought_class p) → ((l : ℕ) → is l → IsReadNext (way_of t.config (sought_class p)) r l) → ReadsAt p is u → ReadsUnrecorded t r u
reads_along t r p is u absent next h = (of_reads u).0 t r (λ l n e. let k = subst (λ (v : Turn _). ReadsAt p is v) e h in (sought_class p, absent, sym k.0, next l k.1))

posts_reads : {A : Type 0} (t : Tasked) (r : Reply A) (a : Answer) (u : Turn A) → Posts a u → ReadsUnrecorded t r u
posts_reads t r a u h = (of_reads u).0 t r (λ l n e. absurd (subst (λ (v : Turn _). Posts a v) e h))

-- ---- the first turn

pub steps_begun : {A : Type 0} (told : Option Content) (j : Job A) (n : Next A) → JobBegins j → IsFor j.request j.target j.path → LeadsAt told phases.Fresh j (HoldsOn j) n → LooksBy j n.stage n.turn → IsPlain n.turn → Derives IsNone (frames_of j.path) n.stage
    → Steps told (loading_at j.path.config (loads.Fresh j)) reply.Start n
steps_begun told j n first for l looks plain derives =
    plain_steps (loading_at j.path.config (loads.Fresh j)) reply.Start n refl refl refl l (omega arith) (fewer_holds told j _ [] [] 0 1 1 (omega arith))
    (λ x h. record { frames = h.before.frames; facts = h.before.facts }) tt tt (λ h. tt) (derives_more IsNone _ (frames_of j.path) n.stage (λ k e. absurd e) derives) (begins_own j.path.config j n.stage n.turn first for looks l.asks) plain

-- ---- a look where it is asked for

pub steps_unrecorded : {A : Type 0} (told : Option Content) (c : Configured) (j : Job A) (n : Next A) → j.path.config ≡ c → IsJob told j.path.config j → IsPath told j.path → LeadsAt told phases.Looking j (HoldsOn j) n → PostsNoFault n.turn
    → Derives (IsSoughtHere j.path) (frames_of j.path) n.stage → ReadsAt j.path (λ l. slice_get (way_on j.path) 0 ≡ Some l) n.turn → Steps told (loading_at c (loads.Looking j)) (reply.Looked None) n
steps_unrecorded {A = A} told c j n e job path l no_fault derives reads = record {
  leads = at_config told c j.path.config j.q j.request (task_room (loading_at c (loads.Looking j))) _ _ n e
      (leads_more (task_room (loading_at c (loads.Looking j))) _ _ l (omega arith)
      (unrecorded_holds told j (λ x. TellsNow {A = A} x (loading_at c (loads.Looking j)) (reply.Looked None)) job path (λ x h. (record { frames = h.told.before.frames; facts = h.told.before.facts }, h.unrecorded)))
      (λ x h. record { frames = h.before.frames; facts = h.before.facts }) (λ x h. record { frames = h.told.before.frames; facts = h.told.before.facts }));
  refused = no_fault;
  linkage = tt;
  blames = tt;
  lacks = λ h. tt;
  reads = reads_along {A = A} (loading_at c (loads.Looking j)) (reply.Looked None) j.path (λ l. slice_get (way_on j.path) 0 ≡ Some l) n.turn (inr refl) (λ m k. subst (λ (d : Configured). slice_get (way_of d (sought_class j.path)) 0 ≡ Some m) e k) reads;
  derives = derives_more (IsSoughtHere j.path) (WasAbsent {A = A} (loading_at c (loads.Looking j)) (reply.Looked None)) (frames_of j.path) n.stage (λ k e. inr (ap (λ (d : Class). waits.Looking d.loader d.name) (sym e))) derives;
  own = tt;
}

pub steps_looked : {A : Type 0} (told : Option Content) (c : Configured) (j : Job A) (row : Arc (ClassRow A) Global) (n : Next A) → j.path.config ≡ c → IsPath told j.path → LeadsAt told phases.Initiating j (FindsRow j row.value) n → IsPlain n.turn
    → (IsOwnTarget j.target → j.path.frames ≡ [] → GoesOnWith j.request row.value.class (task_at c n.stage) n.turn) → Derives IsNone (frames_of j.path) n.stage → Steps told (loading_at c (loads.Looking j)) (reply.Looked (Some row)) n
steps_looked told c j row n e path l plain goes derives =
    let k : room_at phases.Initiating j 0 < room_at phases.Looking j 0 = less_room (past_left j.target) (left_at phases.Initiating (frames_of j.path) 0) (left_at phases.Looking (frames_of j.path) 0) (joins_less told j.path phases.Looking 0 0 path tt) in
    plain_steps (loading_at c (loads.Looking j)) (reply.Looked (Some row)) n e refl refl l (omega arith) (fewer_holds told j _ [] [] 1 0 1 (omega arith))
    (λ x h. record { before = record { frames = h.before.frames; facts = h.before.facts }; now = h.now }) tt tt (λ h. tt) (derives_more IsNone _ (frames_of j.path) n.stage (λ k e. absurd e) derives) (looked_own c j row (task_at c n.stage) n.turn goes) plain

-- ---- a read

pub steps_probed : {A : Type 0} (told : Option Content) (j : Job A) (s : Searched) (p : Found) (n : Next A) → ReadsOn told (probes_left s) j (HoldsOn j) n → PostsNoFault n.turn
    → Derives (IsSoughtHere j.path) (frames_of j.path) n.stage → ReadsAt j.path (IsBehind (way_on j.path) p) n.turn → Steps told (loading_at j.path.config (loads.Searching j s)) (reply.Probed p) n
steps_probed {A = A} told j s p n l no_fault derives reads = record {
  leads = leads_more (task_room (loading_at j.path.config (loads.Searching j s))) _ _ l (omega arith) (fewer_holds told j _ (sought_ask j.path ∷ []) [] 0 0 0 (omega arith)) (λ x h. record { frames = h.before.frames; facts = h.before.facts }) (λ x h. record { frames = h.told.before.frames; facts = h.told.before.facts });
  refused = no_fault;
  linkage = tt;
  blames = tt;
  lacks = λ h. tt;
  reads = reads_along {A = A} (loading_at j.path.config (loads.Searching j s)) (reply.Probed p) j.path (IsBehind (way_on j.path) p) n.turn refl (λ m k. k) reads;
  derives = derives_more (IsSoughtHere j.path) (WasAbsent {A = A} (loading_at j.path.config (loads.Searching j s)) (reply.Probed p)) (frames_of j.path) n.stage (λ k e. ap (λ (d : Class). Some d) (sym e)) derives;
  own = tt;
}

pub steps_fault : {A : Type 0} (told : Option Content) (j : Job A) (s : Searched) (f : SourceFault) (n : Next A) → IsJob told j.path.config j → IsSearch j s → IsPath told j.path → Leads told j last_room (λ x. Unit {0}) n → Posts (fault_answer (loading_at j.path.config (loads.Searching j s)).waits f) n.turn → IsPast n.stage
    → Steps told (loading_at j.path.config (loads.Searching j s)) (reply.SourceFault f) n
steps_fault {A = A} told j s f n job search path l posts past = record {
  leads = leads_more (task_room (loading_at j.path.config (loads.Searching j s))) _ _ l (omega arith)
      (λ g x p served is h. let k = job_some (sought_ask j.path ∷ []) [] 0 j g.world p (state_of x) in omega arith) (λ x h. tt) (λ x h. tt);
  refused = posts;
  linkage = tt;
  blames = fault_blames told j s f n.turn job search path posts;
  lacks = λ h. fault_lacks (next_loader s) (at_name j.path) f (posts_one (fault_answer (loading_at j.path.config (loads.Searching j s)).waits f) answers.Memory n.turn posts h);
  derives = past_derives (WasAbsent {A = A} (loading_at j.path.config (loads.Searching j s)) (reply.SourceFault f)) (frames_of j.path) n.stage past;
  reads = posts_reads {A = A} (loading_at j.path.config (loads.Searching j s)) (reply.SourceFault f) (fault_answer (loading_at j.path.config (loads.Searching j s)).waits f) n.turn posts;
  own = tt;
}

-- ---- a look at a home

home_finds : {A : Type 0} (x : Shown) (c : Configured) (j : Job A) (h : Located) (o : Option (Arc (ClassRow A) Global)) → Tells {A = A} x (loading_at c (loads.Homing j h)) (reply.Looked o) → FindsHome j h o (λ r. r.value) x
home_finds x c j h None t = record { frames = t.before.frames; facts = t.before.facts }
home_finds x c j h (Some row) t = record { before = record { frames = t.before.frames; facts = t.before.facts }; now = t.now }

home_absent : {A : Type 0} (c : Configured) (j : Job A) (h : Located) (o : Option (Arc (ClassRow A) Global)) → h.name ≡ at_name j.path → (k : Class) → IsUnfound h o k → WasAbsent {A = A} (loading_at c (loads.Homing j h)) (reply.Looked o) k
home_absent c j h None named k e = inr (ap (λ (d : Class). waits.Looking d.loader d.name) (sym (e ∙ ap (λ (n : List ℕ). class n h.definer) named)))
home_absent c j h (Some row) named k e = absurd e

home_calls : {A : Type 0} (told : Option Content) (j : Job A) (h : Located) (o : Option (Arc (ClassRow A) Global)) → IsHoming j h
    → Holds told j (λ x. TellsNow {A = A} x (loading_at j.path.config (loads.Homing j h)) (reply.Looked o)) 1 (calls_found j h.definer o) (job_calls [] (sought_ask j.path ∷ []) 2 j)
home_calls {A = A} told j h None homing = unfound_holds told j h.definer (λ x. TellsNow {A = A} x (loading_at j.path.config (loads.Homing j h)) (reply.Looked None)) (λ e. homing.other (sym e)) (λ x t. t.unrecorded)
home_calls {A = A} told j h (Some row) homing = found_holds told j h.definer (λ x. TellsNow {A = A} x (loading_at j.path.config (loads.Homing j h)) (reply.Looked (Some row))) (λ e. homing.other (sym e))

pub steps_home : {A : Type 0} (told : Option Content) (j : Job A) (h : Located) (o : Option (Arc (ClassRow A) Global)) (n : Next A) → IsFor j.request j.target j.path → IsHoming j h → LeadsHome told j h.definer o (FindsHome j h o (λ r. r.value)) n → IsPlain n.turn
    → Derives (IsUnfound h o) (frames_of j.path) n.stage → Steps told (loading_at j.path.config (loads.Homing j h)) (reply.Looked o) n
steps_home told j h o n for homing l plain derives =
    plain_steps (loading_at j.path.config (loads.Homing j h)) (reply.Looked o) n refl refl refl l (omega arith) (home_calls told j h o homing)
    (λ x t. home_finds x j.path.config j h o t) tt tt (λ h. tt) (derives_more (IsUnfound h o) _ (frames_of j.path) n.stage (λ k e. home_absent j.path.config j h o homing.sought.name k e) derives) (home_any j.path.config j h o (task_at j.path.config n.stage) n.turn for homing) plain

-- ---- a record of a class

defined_finds : {A : Type 0} (told : Option Content) (x : Shown) (c : Configured) (j : Job A) (w : Framed) (row : Arc (ClassRow A) Global) → IsWhole told j.path w → IsDraft told w.draft → Tells {A = A} x (loading_at c (loads.Defining j w)) (reply.Defined row) → FindsBy j w.draft.home row.value x
defined_finds told x c j w row whole draft t = record {
  before = record { frames = have_first x (frames_of j.path) (frame_of w) t.before.frames; facts = t.before.facts };
  now =
      subst (λ (l : ℕ). IsRecordedAs x l (at_name j.path) row.value) (ap (λ (k : Class). k.loader) draft.placed)
      (subst (λ (name : List ℕ). IsRecordedAs x w.draft.class.loader name row.value) whole.named t.now);
}

defined_calls : {A : Type 0} (told : Option Content) (c : Configured) (j : Job A) (w : Framed) (row : Arc (ClassRow A) Global) → IsWhole told j.path w → IsDraft told w.draft
    → Holds told j (λ x. TellsNow {A = A} x (loading_at c (loads.Defining j w)) (reply.Defined row)) 1 (calls_at phases.Defining j w.draft.home.definer) (defining_calls j w)
defined_calls {A = A} told c j w row whole draft =
    let now : Shown → Type 0 = λ x. TellsNow {A = A} x (loading_at c (loads.Defining j w)) (reply.Defined row) in
    subst (λ (l : ℕ). Holds told j now 1 (calls_at phases.Defining j l) (defining_calls j w)) (ap (λ (k : Class). k.loader) draft.placed)
    (defined_holds told j w.draft.class row.value.class.loader now whole.named (λ x t. t.told.now.records.1))

pub steps_defined : {A : Type 0} (told : Option Content) (c : Configured) (j : Job A) (w : Framed) (row : Arc (ClassRow A) Global) (n : Next A) → j.path.config ≡ c → IsWhole told j.path w → IsDraft told w.draft → LeadsFrom told phases.Defining j w.draft.home.definer (FindsBy j w.draft.home row.value) n
    → IsPlain n.turn → Derives IsNone (frames_of j.path) n.stage → IsFor j.request j.target j.path → (IsOwnTarget j.target → j.path.frames ≡ [] → w.draft.home.definer ≡ at_loader j.path → GoesOnWith j.request row.value.class (task_at c n.stage) n.turn)
    → Steps told (loading_at c (loads.Defining j w)) (reply.Defined row) n
steps_defined told c j w row n e whole draft l plain derives for goes =
    plain_steps (loading_at c (loads.Defining j w)) (reply.Defined row) n e refl refl l (omega arith) (defined_calls told c j w row whole draft)
    (λ x t. defined_finds told x c j w row whole draft t) tt tt (λ h. tt)
    (derives_by IsNone _ (frames_of j.path ++ frame_of w ∷ []) (frames_of j.path) n.stage (λ k d. inl (derived_first (frames_of j.path) (frame_of w) k d)) (λ k e. absurd e) derives) (defined_own c j w row (task_at c n.stage) n.turn for (ap (λ (k : Class). k.loader) draft.placed) goes) plain

define_refused : {A : Type 0} (x : Shown) (c : Configured) (j : Job A) (w : Framed) (need : needs.Need) → need_of need ≡ next_need {A = A} (nexts.Define w) → Tells {A = A} x (loading_at c (loads.Defining j w)) (reply.Refused need) → RefusedOn {A = A} {B = A} j (nexts.Define w) x
define_refused x c j w need is t = record {
  before = record { frames = have_first x (frames_of j.path) (frame_of w) t.before.frames; facts = t.before.facts };
  needs = (kept_is_met (state_of x) (frame_of w ∷ [])).1 (frame_kept x (frame_of w) (have_last x (frames_of j.path) (frame_of w) t.before.frames), tt);
  refused = subst (λ (k : Need). Refused (state_of x) k) is t.now;
}

pub steps_define_refused : {A : Type 0} (told : Option Content) (c : Configured) (j : Job A) (w : Framed) (need : needs.Need) (n : Next A) → j.path.config ≡ c → need_of need ≡ next_need {A = A} (nexts.Define w) → Leads told j (past_room j) (RefusedOn {A = A} {B = A} j (nexts.Define w)) n
    → IsPlain n.turn → EndsAsRefused j.request need n.turn → IsPast n.stage → (Posts answers.Memory n.turn → ResolvesReference j.request) → Steps told (loading_at c (loads.Defining j w)) (reply.Refused need) n
steps_define_refused {A} told c j w need n e is l plain ends past lacks =
    plain_steps (loading_at c (loads.Defining j w)) (reply.Refused need) n e refl refl l (omega arith)
    (past_made told j _ [] (sought_ask j.path ∷ ask_for w.draft.class ∷ []) (1 + away_calls (at_loader j.path) w.draft.class.loader) (omega arith))
    (λ x t. define_refused {A = A} x c j w need is t) ends tt lacks (past_derives _ _ n.stage past) tt plain

-- ---- a record of the loader that was asked

initiated_finds : {A : Type 0} (x : Shown) (c : Configured) (j : Job A) (h : Arc (Home A) Global) (row : Arc (ClassRow A) Global) → IsSought j.path h.value → Tells {A = A} x (loading_at c (loads.Initiating j h)) (reply.Initiated row) → FindsRow j row.value x
initiated_finds x c j h row sought t = record {
  before = record { frames = t.before.frames; facts = t.before.facts.1 };
  now = subst (λ (l : ℕ). IsRecordedAs x l (at_name j.path) row.value) sought.asked (subst (λ (name : List ℕ). IsRecordedAs x h.value.asked name row.value) sought.name t.now);
}

pub steps_initiated : {A : Type 0} (told : Option Content) (c : Configured) (j : Job A) (h : Arc (Home A) Global) (row : Arc (ClassRow A) Global) (n : Next A) → j.path.config ≡ c → IsSought j.path h.value → LeadsAt told phases.Initiating j (FindsRow j row.value) n → IsPlain n.turn
    → Derives IsNone (frames_of j.path) n.stage → (IsOwnTarget j.target → j.path.frames ≡ [] → GoesOnWith j.request row.value.class (task_at c n.stage) n.turn) → Steps told (loading_at c (loads.Initiating j h)) (reply.Initiated row) n
steps_initiated told c j h row n e sought l plain derives goes =
    plain_steps (loading_at c (loads.Initiating j h)) (reply.Initiated row) n e refl refl l (omega arith)
    (initiated_holds told j row.value.class.loader _ (λ x t. (initiated_finds x c j h row sought t.told).now.records.1))
    (λ x t. initiated_finds x c j h row sought t) tt tt (λ h. tt) (derives_more IsNone _ (frames_of j.path) n.stage (λ k e. absurd e) derives) (initiated_own c j h row (task_at c n.stage) n.turn goes) plain

initiate_refused : {A : Type 0} (x : Shown) (c : Configured) (j : Job A) (h : Arc (Home A) Global) (need : needs.Need) → need_of need ≡ next_need {A = A} (nexts.Initiate h) → Tells {A = A} x (loading_at c (loads.Initiating j h)) (reply.Refused need) → RefusedOn {A = A} {B = A} j (nexts.Initiate h) x
initiate_refused x c j h need is t = record {
  before = record { frames = t.before.frames; facts = t.before.facts.1 };
  needs = (t.before.facts.0, tt);
  refused = subst (λ (k : Need). Refused (state_of x) k) is t.now;
}

pub steps_initiate_refused : {A : Type 0} (told : Option Content) (c : Configured) (j : Job A) (h : Arc (Home A) Global) (need : needs.Need) (n : Next A) → j.path.config ≡ c → need_of need ≡ next_need {A = A} (nexts.Initiate h) → Leads told j (past_room j) (RefusedOn {A = A} {B = A} j (nexts.Initiate h)) n
    → IsPlain n.turn → EndsAsRefused j.request need n.turn → IsPast n.stage → (Posts answers.Memory n.turn → ResolvesReference j.request) → Steps told (loading_at c (loads.Initiating j h)) (reply.Refused need) n
steps_initiate_refused {A} told c j h need n e is l plain ends past lacks =
    plain_steps (loading_at c (loads.Initiating j h)) (reply.Refused need) n e refl refl l (omega arith) (past_made told j _ [] (sought_ask j.path ∷ []) 1 (omega arith))
    (λ x t. initiate_refused {A = A} x c j h need is t) ends tt lacks (past_derives _ _ n.stage past) tt plain

-- the need that was refused is that of the call
pub need_is : {n m : Need} → Some n ≡ Some m → m ≡ n
need_is e = cc
