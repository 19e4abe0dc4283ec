-- The class that a path loads is recorded: what the request goes on with (JVMS SE 8, 5.3, 5.4, 5.4.3).
use Rattle.std.proofs.Common.{◌≡◌, ◌∙◌, ◌<◌, ◌≤◌, ◌+◌, ℕ, List, [], length, map, Option, Some, inl, inr, refl, sym, ap, subst, arith}
use Rattle.std.specs.declared.alloc.Global.{Global}
use Rattle.std.specs.declared.sync.Arc.{Arc}
use Rattle.cl_model.specs.declared.class.Class.{Class}
use Rattle.cl_model.specs.declared.request.Request.{Request}
use Rattle.cl_model.specs.declared.request.Request.TheVariants as requests
use Rattle.cl_model.specs.Content.{Content}
use Rattle.cl_model.specs.Classes.{class}
use Rattle.cl_model.specs.Frames.{Frame, asking_loader}
use Rattle.cl_model.specs.Homes.{World}
use Rattle.cl_model.specs.Machine.{AnswersPlan}
use Rattle.cl_model.specs.Plans as plans
use Rattle.cl_model.specs.States.{State, IsClass, recorded_definer}
use Rattle.cl_model.specs.Tables.{Records}
use Rattle.cl_model.proofs.Looks.{recorded_answers}
use Rattle.cl_model.proofs.Service.{load_comes}
use Rattle.cl_config.specs.Views.{Configured}
use Rattle.cl_hierarchy.specs.Frames.{Framed, frame_of}
use Rattle.cl_hierarchy.specs.Paths.{Pathed, at_loader, at_name, frames_of, sought_name}
use Rattle.cl_hierarchy.specs.Rows.{Rowed}
use Rattle.cl_findings.specs.declared.load.Target.{Target}
use Rattle.cl_findings.specs.declared.load.Target.TheVariants as targets
use Rattle.cl_findings.specs.Loads.{IsFor, IsReferred}
use Rattle.cl_hierarchy.specs.declared.row.ClassRow.{ClassRow}
use Rattle.cl_findings.specs.Findings.{loader_of, name_of}
use Rattle.cl_registry.specs.Tables.{Shown, records_of, state_of}
use Rattle.cl_registry.proofs.Named.{recorded_is_named}
use Rattle.cl_tasks.specs.Calls.{Calls, calls_in, hand_calls, in_hand, own_calls, reference_calls, while_loading}
use Rattle.cl_tasks.specs.Facts.{AreSo, IsRecordedAs}
use Rattle.cl_tasks.specs.Reaching.{ReachesBy, after_reaching}
use Rattle.cl_tasks.specs.Measures.{Initiating, checking_left, left_at, named_left, own_left, prepared_left}
use Rattle.cl_tasks.specs.Resolving.{NamedTold}
use Rattle.cl_tasks.specs.Rooms.{Room, calls_at, named_room, room_at, room_of}
use Rattle.cl_tasks.specs.Stages.{IsJob, job_calls, named_facts, past_calls, past_left, target_facts}
use Rattle.cl_tasks.specs.declared.stage.Entry as entries
use Rattle.cl_tasks.specs.declared.stage.Job.{Job}
use Rattle.cl_tasks.specs.Steps.{FindsRow, LeadsAt, LeadsBy}
use Rattle.cl_tasks.specs.declared.stage.Next.{Next}
use Rattle.cl_tasks.proofs.Lead.{HasPost, job_past, leads_by, leads_out, leads_post}

-- the loader that a request asks has recorded the class of this row for its name
abbrev pub RowFor : Request → Rowed → Shown → Type 0
RowFor r row x = IsRecordedAs x (loader_of r) (name_of r) row

-- how many turns are left at most once a request goes on with its class
abbrev pub reached_left : Request → ℕ
reached_left (requests.Load loader name) = 1
reached_left (requests.Resolve loader name i) = checking_left
reached_left (requests.Link loader name) = prepared_left + 1

-- and how many calls: of what is still to be recorded, and of what follows the load
abbrev pub reached_calls : Request → Calls
reached_calls r = while_loading [] [] 0 (own_calls r)

abbrev pub reached_room : Request → Room
reached_room r = room_of (reached_left r) (reached_calls r)

record_for : (x : Shown) (l : ℕ) (n : List ℕ) (row : Rowed) → IsRecordedAs x l n row → recorded_definer (records_of x) l row.class.name ≡ Some row.class.loader
record_for x l n row h = subst (λ (k : List ℕ). recorded_definer (records_of x) l k ≡ Some row.class.loader) (sym h.records.0) h.records.1

reaches_load : (A : Type 0) (told : Option Content) (c : Configured) (q l : ℕ) (n : List ℕ) (row : Arc (ClassRow A) Global) → l < length c.loaders → LeadsBy {A = A} told c q (requests.Load l n) (reached_room (requests.Load l n)) (RowFor (requests.Load l n) row.value) (after_reaching q (requests.Load l n) row row.value.class)
reaches_load A told c q l n row asked =
    leads_post refl (omega arith) (λ w p s. omega arith)
    (λ x config named consistent h. record {
      within = record {
        loader = subst (λ (k : Configured). l < length k.loaders) (sym config) asked;
        answer = recorded_is_named x l row.value.class.loader n named h.records.1;
      };
      answer = record {
        grounded = inl tt;
        borne = λ d is. subst (λ (k : Class). Records (state_of x) l n k) (class_is row.value.class d is) h.records;
      };
    })
    (λ g x served h.
    load_comes g (state_of x) l n (IsClass row.value.class)
    (subst (λ (k : Class). AnswersPlan g (state_of x) (plans.Load l n) (IsClass k)) (row_class x l n row.value h) (recorded_answers g (state_of x) l row.value.class.loader n served.sound.closed h.records.1)))
  where
    class_is : (a b : Class) → IsClass a ≡ IsClass b → a ≡ b
    class_is a b e = cc

    row_class : (x : Shown) (l : ℕ) (n : List ℕ) (row : Rowed) → IsRecordedAs x l n row → class n row.class.loader ≡ row.class
    row_class x l n row h = ap (λ (k : List ℕ). class k row.class.loader) (sym h.records.0)

reaches_reference : (A : Type 0) (told : Option Content) (c : Configured) (q l : ℕ) (n : List ℕ) (i : ℕ) (row : Arc (ClassRow A) Global) → l < length c.loaders → row.value.class.name ≡ n
    → LeadsBy {A = A} told c q (requests.Resolve l n i) (reached_room (requests.Resolve l n i)) (RowFor (requests.Resolve l n i) row.value) (after_reaching q (requests.Resolve l n i) row row.value.class)
reaches_reference A told c q l n i row asked name = record {
  kept = record { of = ap (λ (k : List ℕ). requests.Resolve l k i) (sym name); asked = asked };
  number = refl;
  asks = refl;
  serves = refl;
  left = omega arith;
  calls = λ g x p served is h. omega arith;
  keeps = λ x h. record { frames = tt; facts = (record_for x l n row.value h, tt) };
  backed = λ x config named consistent h. tt;
  follows = λ g x served h. tt;
}

reaches_goal : (A : Type 0) (told : Option Content) (c : Configured) (q l : ℕ) (n : List ℕ) (row : Arc (ClassRow A) Global) → l < length c.loaders → row.value.class.name ≡ n
    → LeadsBy {A = A} told c q (requests.Link l n) (reached_room (requests.Link l n)) (RowFor (requests.Link l n) row.value) (after_reaching q (requests.Link l n) row row.value.class)
reaches_goal A told c q l n row asked name = record {
  kept = record { of = ap (λ (k : List ℕ). requests.Link l k) (sym name); asked = asked };
  number = refl;
  asks = refl;
  serves = refl;
  left = omega arith;
  calls = λ g x p served is h. omega arith;
  keeps = λ x h. record { frames = tt; facts = (record_for x l n row.value h, tt) };
  backed = λ x config named consistent h. tt;
  follows = λ g x served h. tt;
}

reaches_class : (A : Type 0) (told : Option Content) (c : Configured) (q : ℕ) (r : Request) (row : Arc (ClassRow A) Global) → loader_of r < length c.loaders → row.value.class.name ≡ name_of r
    → LeadsBy {A = A} told c q r (reached_room r) (RowFor r row.value) (after_reaching q r row row.value.class)
reaches_class A told c q (requests.Load l n) row asked name = reaches_load A told c q l n row asked
reaches_class A told c q (requests.Resolve l n i) row asked name = reaches_reference A told c q l n i row asked name
reaches_class A told c q (requests.Link l n) row asked name = reaches_goal A told c q l n row asked name

room_for : (r : Request) → 0 < reached_left r
room_for (requests.Load l n) = omega arith
room_for (requests.Resolve l n i) = omega arith
room_for (requests.Link l n) = omega arith

post_for : (r : Request) → HasPost (reached_room r)
post_for (requests.Load l n) = λ w p s. omega arith
post_for (requests.Resolve l n i) = λ w p s. omega arith
post_for (requests.Link l n) = λ w p s. omega arith

-- a request goes on with its class, or memory runs out
pub reaches : (A : Type 0) (told : Option Content) (c : Configured) (q : ℕ) (r : Request) (row : Arc (ClassRow A) Global) (n : Next A) → loader_of r < length c.loaders → row.value.class.name ≡ name_of r → ReachesBy q r row n
    → LeadsBy told c q r (reached_room r) (RowFor r row.value) n
reaches A told c q r row n asked name (inl out) = leads_out told c q r (reached_room r) (RowFor r row.value) (RowFor r row.value) out asked (room_for r) (post_for r)
reaches A told c q r row n asked name (inr is) = subst (λ (m : Next A). LeadsBy told c q r (reached_room r) (RowFor r row.value) m) (sym is) (reaches_class A told c q r row asked name)

own_room : (r : Request) → reached_left r ≤ own_left
own_room (requests.Load l n) = omega arith
own_room (requests.Resolve l n i) = omega arith
own_room (requests.Link l n) = omega arith

-- ---- a path without frames

root_loader : (p : Pathed) → p.frames ≡ [] → at_loader p ≡ p.loader
root_loader p e = ap (λ (fs : List Framed). asking_loader p.loader (map frame_of fs)) e

root_name : (p : Pathed) → p.frames ≡ [] → at_name p ≡ p.name
root_name p e = ap (sought_name p.name) e

-- nothing is in hand
root_frames : (p : Pathed) → p.frames ≡ [] → frames_of p ≡ []
root_frames p e = ap (λ (fs : List Framed). map frame_of fs) e

own_job_calls : (A : Type 0) (j : Job A) → j.target ≡ targets.Own → j.path.frames ≡ [] → job_calls [] [] 0 j ≡ reached_calls j.request
own_job_calls A j target root =
    ap (λ (fs : List Frame). while_loading [] (in_hand j.path.loader fs) (hand_calls j.path.loader fs + 0) (past_calls j.request j.target)) (root_frames j.path root)
    ∙ ap (λ (t : Target A). while_loading [] [] 0 (past_calls j.request t)) target

same_calls : (one other : Calls) (w : World) (p : plans.Plan) (s : State) → one ≡ other → 0 + calls_in other w p s ≤ calls_in one w p s
same_calls one other w p s is = subst (λ (n : Calls). 0 + calls_in n w p s ≤ calls_in one w p s) is (same (calls_in one w p s))
  where
    same : (n : ℕ) → 0 + n ≤ n
    same n = omega arith

more_room : (a p k r : ℕ) → r ≤ a → p ≡ a → r ≤ p + k
more_room a p k r le e = omega arith

-- the path of a request's own class
abbrev OwnPath : (A : Type 0) → Job A → Type 0
OwnPath A j = IsFor {A = A} j.request targets.Own j.path

own_found : (A : Type 0) (j : Job A) (row : Rowed) (x : Shown) → OwnPath A j → j.path.frames ≡ [] → FindsRow j row x → RowFor j.request row x
own_found A j row x own root h =
    subst (λ (l : ℕ). IsRecordedAs x l (name_of j.request) row) (root_loader j.path root ∙ sym own.loader)
    (subst (λ (n : List ℕ). IsRecordedAs x (at_loader j.path) n row) (root_name j.path root ∙ sym own.name) h.now)

pub reaches_own : (A : Type 0) (told : Option Content) (c : Configured) (j : Job A) (row : Arc (ClassRow A) Global) (n : Next A) → IsJob told c j → j.target ≡ targets.Own → j.path.frames ≡ [] → row.value.class.name ≡ at_name j.path → ReachesBy j.q j.request row n
    → LeadsAt told Initiating j (FindsRow j row.value) n
reaches_own A told c j row n job target root name by =
    let own : OwnPath A j = subst (λ (t : Target A). IsFor j.request t j.path) target job.for_request in
    let room = room_of (room_at Initiating j 0) (calls_at Initiating j 0) in
    subst (λ (k : Configured). LeadsBy told k j.q j.request room (FindsRow j row.value) n) (sym job.config)
    (leads_by room (FindsRow j row.value)
    (reaches A told c j.q j.request row n job.asked (name ∙ root_name j.path root ∙ sym own.name) by)
    (more_room own_left (past_left j.target) (left_at Initiating (frames_of j.path) 0) (reached_left j.request) (own_room j.request) (ap (λ (t : Target A). past_left t) target))
    (λ g x p served is h. same_calls (job_calls [] [] 0 j) (reached_calls j.request) g.world p (state_of x) (own_job_calls A j target root))
    (λ x h. own_found A j row.value x own root h))

-- the entry whose class a path loads
abbrev entry_for : (A : Type 0) → Job A → Arc (ClassRow A) Global → ℕ → ℕ → List ℕ → entries.Entry A
entry_for A j d i l n = record { q = j.q; request = requests.Resolve l n i; index = i; d = d }

named_found : (A : Type 0) (j : Job A) (d : Arc (ClassRow A) Global) (l i : ℕ) (n : List ℕ) (row : Rowed) (x : Shown) → IsReferred j.request d.value j.path → j.target ≡ targets.Reference d → j.path.frames ≡ [] → j.request ≡ requests.Resolve l n i → FindsRow j row x → NamedTold (entry_for A j d i l n) row x
named_found A j d l i n row x referred target root is h =
    let facts : AreSo x (target_facts {A = A} j.request (targets.Reference d)) = subst (λ (t : Target A). AreSo x (target_facts j.request t)) target h.before.facts in
    let here : IsRecordedAs x d.value.class.loader (at_name j.path) row = subst (λ (l : ℕ). IsRecordedAs x l (at_name j.path) row) (root_loader j.path root ∙ referred.loader) h.now in
    subst (λ (r : Request). AreSo x (named_facts r d.value.class row.class)) is
    (facts.0, (record_for x d.value.class.loader (at_name j.path) row here, tt))

named_within : (A : Type 0) (j : Job A) (d : Arc (ClassRow A) Global) (w : World) (p : plans.Plan) (s : State) → j.target ≡ targets.Reference d → 0 + calls_in reference_calls w p s ≤ calls_in (job_calls [] [] 0 j) w p s
named_within A j d w p s target =
    subst (λ (t : Target A). 0 + calls_in (past_calls j.request t) w p s ≤ calls_in (job_calls [] [] 0 j) w p s) target (none (calls_in (past_calls j.request j.target) w p s) (calls_in (job_calls [] [] 0 j) w p s) (job_past [] [] 0 j w p s))
  where
    none : (a b : ℕ) → a ≤ b → 0 + a ≤ b
    none a b h = omega arith

pub reaches_named : (A : Type 0) (told : Option Content) (c : Configured) (j : Job A) (d : Arc (ClassRow A) Global) (l i : ℕ) (n : List ℕ) (row : Rowed) (next : Next A) → IsJob told c j → j.target ≡ targets.Reference d → j.path.frames ≡ [] → j.request ≡ requests.Resolve l n i
    → LeadsBy told c j.q (requests.Resolve l n i) named_room (NamedTold (entry_for A j d i l n) row) next → LeadsAt told Initiating j (FindsRow j row) next
reaches_named A told c j d l i n row next job target root is leads =
    let referred : IsReferred j.request d.value j.path = subst (λ (t : Target A). IsFor j.request t j.path) target job.for_request in
    let room = room_of (room_at Initiating j 0) (calls_at Initiating j 0) in
    subst (λ (k : Configured). LeadsBy told k j.q j.request room (FindsRow j row) next) (sym job.config)
    (leads_by room (FindsRow j row)
    (subst (λ (r : Request). LeadsBy told c j.q r named_room (NamedTold (entry_for A j d i l n) row) next) (sym is) leads)
    (more_room named_left (past_left j.target) (left_at Initiating (frames_of j.path) 0) named_left (omega arith) (ap (λ (t : Target A). past_left t) target))
    (λ g x p served is h. named_within A j d g.world p (state_of x) target)
    (λ x h. named_found A j d l i n row x referred target root is h))
