-- What a resolution does on the look at its entry, and on the second look for its class, as a step (JVMS SE 8, 5.4.3).
use Rattle.std.proofs.Common.{◌≡◌, ◌∙◌, ◌≤◌, ℕ, Bool, true, false, not, eqb, List, [], length, Option, Some, None, inr, refl, sym, ap, subst, arith}
use Rattle.std.specs.Prelude.{IfSome}
use Rattle.std.specs.Cmp.Lexicographic.{pointwise, same_text}
use Rattle.std.specs.declared.alloc.Global.{Global}
use Rattle.std.specs.declared.sync.Arc.{Arc}
use Rattle.cl_model.specs.declared.answer.Answer.TheVariants as answers
use Rattle.cl_model.specs.declared.class.Class.{Class}
use Rattle.cl_model.specs.declared.request.Request.{Request}
use Rattle.cl_model.specs.declared.request.Request.TheVariants as requests
use Rattle.cl_model.specs.declared.settled.Settled.{Settled}
use Rattle.cl_model.specs.declared.verdict.Verdict as verdict
use Rattle.cl_model.specs.Content.{Content}
use Rattle.cl_model.specs.Machine.{AnswersPlan, Setting}
use Rattle.cl_model.specs.Plans as plans
use Rattle.cl_model.specs.Service.{ComesTo}
use Rattle.cl_model.specs.States.{State, recorded_definer}
use Rattle.cl_model.specs.Tables.{Bears}
use Rattle.cl_model.specs.Views.{request_of, verdict_of}
use Rattle.cl_model.proofs.Gone.{borne_said, unrecorded_bears}
use Rattle.cl_model.proofs.Service.{resolve_wants, said_comes}
use Rattle.cl_config.specs.Views.{Configured}
use Rattle.cl_findings.specs.Findings.{Answered, Based, Decides, IsWithin, Rests, loader_of, name_of, grounded_answer}
use Rattle.cl_hierarchy.specs.declared.row.ClassRow.{ClassRow}
use Rattle.cl_registry.specs.Tables.{Shown, state_of}
use Rattle.cl_tasks.specs.Facts.{AreSo}
use Rattle.cl_tasks.specs.Deriving.{Derives, IsNone, IsPast}
use Rattle.cl_tasks.specs.Follows.{LacksOnly, Posts, ServedIn, Tells, TellsNow}
use Rattle.cl_tasks.specs.Measures.{checking_left, reference_left}
use Rattle.cl_tasks.specs.Reaching.{ReachesBy}
use Rattle.cl_tasks.specs.Resolving.{SettledTold}
use Rattle.cl_tasks.specs.Rooms.{reference_room}
use Rattle.cl_tasks.specs.Stages.{IsFailed, basis_facts, load_alone, resolving_at, task_at}
use Rattle.cl_tasks.specs.Steps.{IsPlain, LeadsBy, LeadsOn, Steps, memory_ends, task_room}
use Rattle.cl_tasks.specs.Tasks.{Tasked}
use Rattle.cl_tasks.specs.Turns.{AnswersOwn, GoesOnWith}
use Rattle.cl_tasks.specs.declared.stage.Entry as entries
use Rattle.cl_tasks.specs.declared.stage.Failed.{Failed}
use Rattle.cl_tasks.specs.declared.stage.Next.{Next}
use Rattle.cl_tasks.specs.declared.stage.Resolution.TheVariants as resolutions
use Rattle.cl_tasks.specs.declared.stage.Stage.TheVariants as stages
use Rattle.cl_tasks.specs.declared.turn.Reply.TheVariants as reply
use Rattle.cl_tasks.specs.declared.turn.Turn.TheVariants as turn
use Rattle.cl_tasks.proofs.Deriving.{derives_more, past_derives}
use Rattle.cl_tasks.proofs.Facts.{so_met, so_refuses}
use Rattle.cl_tasks.proofs.Lacking.{posts_one, posts_or, shared_memory}
use Rattle.cl_tasks.proofs.Lead.{leads_post, memory_steps, not_false, plain_steps}
use Rattle.cl_tasks.proofs.Reaching.{reached_left, reaches}
use Rattle.cl_tasks.proofs.Said.{Stood, borne, concludes_at, found_is, stood_answers, unrecorded}
use Rattle.std.proofs.lemmas.Option.{none-some}
use Rattle.cl_model.proofs.Bind.{some_same}
use Rattle.cl_findings.proofs.Answered.{answered_by}

same_room : (m : ℕ) → m ≤ m
same_room m = omega arith

-- ---- the look at the entry

reference_told : {A : Type 0} (c : Configured) (e : entries.Entry A) (o : Option (Arc Settled Global)) (x : Shown) → Tells {A = A} x (resolving_at c (resolutions.LookingReference e)) (reply.LookedReference o) → SettledTold e o x
reference_told c e None x h = record { before = h.before.facts; now = tt }
reference_told c e (Some s) x h = record { before = h.before.facts; now = h.now }

reference_own : {A : Type 0} (c : Configured) (e : entries.Entry A) (o : Option (Arc Settled Global)) (n : Next A) → IfSome o (λ s. Posts (answers.Shared s) n.turn)
    → AnswersOwn (resolving_at c (resolutions.LookingReference e)) (task_at c n.stage) (reply.LookedReference o) n.turn
reference_own c e None n h = tt
reference_own c e (Some s) n h = posts_or (answers.Shared s) n.turn h

-- what is settled is posted without memory
reference_lacks : {A : Type 0} (r : Request) (o : Option (Arc Settled Global)) (n : Next A) → IfSome o (λ s. Posts (answers.Shared s) n.turn) → LacksOnly {A = A} (Some r) (reply.LookedReference o) n.turn
reference_lacks r None n h = λ k. tt
reference_lacks r (Some s) n h = λ k. shared_memory s (posts_one (answers.Shared s) answers.Memory n.turn h k)

pub reference_steps : {A : Type 0} (told : Option Content) (c : Configured) (e : entries.Entry A) (o : Option (Arc Settled Global)) (n : Next A) → LeadsBy told c e.q e.request reference_room (SettledTold e o) n
    → IfSome o (λ s. Posts (answers.Shared s) n.turn) → IsPlain n.turn → Derives IsNone [] n.stage → Steps told (resolving_at c (resolutions.LookingReference e)) (reply.LookedReference o) n
reference_steps told c e o n l own plain derives =
    plain_steps (resolving_at c (resolutions.LookingReference e)) (reply.LookedReference o) n refl refl refl l (same_room reference_left) (λ g x p served is h. omega arith) (λ x h. reference_told c e o x h)
    tt tt (reference_lacks e.request o n own) (derives_more IsNone _ [] n.stage (λ k h. absurd h) derives) (reference_own c e o n own) plain

-- ---- tests

pub texts_same : (a b : List ℕ) → not (pointwise eqb a b) ≡ false → a ≡ b
texts_same a b e = same_text a b (sym (not_false (pointwise eqb a b) e))

pub decided : {P : Type 0} (b : Bool) → Decides b P → b ≡ true → P
decided true d e = d
decided false d e = absurd cc

-- ---- the second look for the class

equal_room : (a b : ℕ) → a ≡ b → a ≤ b
equal_room a b e = omega (arith, e)

failed_whole : {A : Type 0} (told : Option Content) (c : Configured) (f : Failed A) (failed : IsFailed told c f) → f.finding ≡ grounded_answer f.request failed.verdict failed.basis
failed_whole told c f failed = found_is f.finding f.request failed.verdict failed.basis failed.same failed.said failed.rests_on

-- what it rests on was told
failed_facts : {A : Type 0} (told : Option Content) (c : Configured) (f : Failed A) (failed : IsFailed told c f) (x : Shown) → AreSo x (basis_facts f.finding.basis) → AreSo x (basis_facts (Some failed.basis))
failed_facts told c f failed x h = subst (λ (o : Option Based). AreSo x (basis_facts o)) failed.rests_on h

-- where a content is told, the class of a resolution whose load fails is recorded nowhere
failed_unrecorded : {A : Type 0} (told : Option Content) (c : Configured) (f : Failed A) → IsFailed told c f → (g : Setting) (x : Shown) → ServedIn told c g (state_of x) → AreSo x (basis_facts f.finding.basis) → recorded_definer (state_of x).records (loader_of f.request) (name_of f.request) ≡ None
failed_unrecorded told c f failed g x served facts =
    let r = f.request in
    let v = failed.verdict in
    let so = failed_facts told c f failed x facts in
    let load : Rests told (grounded_answer (load_alone r) v failed.basis) = subst (λ (k : Answered). Rests told (record k { request = load_alone r })) (failed_whole told c f failed) failed.own in
    let concludes = concludes_at told c g (state_of x) (load_alone r) v failed.basis served load failed.config failed.unprepared (so_met x failed.basis so) in
    unrecorded g (state_of x) (loader_of r) (name_of r) v served.sound failed.failure (answered_by g (state_of x) (plans.Load (loader_of r) (name_of r)) failed.basis.refused failed.basis.before (verdict_of v) concludes (so_refuses x failed.basis so))

-- so nothing is found there
found_never : {A : Type 0} (told : Option Content) (c : Configured) (f : Failed A) → IsFailed told c f → (row : Arc (ClassRow A) Global) (g : Setting) (x : Shown) → ServedIn told c g (state_of x) → Tells {A = A} x (resolving_at c (resolutions.Checking f)) (reply.Looked (Some row)) → ⊥
found_never told c f failed row g x served h = none-some _ (sym (failed_unrecorded told c f failed g x served h.before.facts) ∙ h.now.records.1)

pub found_steps : {A : Type 0} (told : Option Content) (c : Configured) (f : Failed A) (row : Arc (ClassRow A) Global) (n : Next A) → IsFailed told c f → row.value.class.name ≡ name_of f.request → ReachesBy f.q f.request row n
    → GoesOnWith f.request row.value.class (task_at c n.stage) n.turn → IsPlain n.turn → IsPast n.stage → Steps told (resolving_at c (resolutions.Checking f)) (reply.Looked (Some row)) n
found_steps {A = A} told c f row n failed name by goes plain past =
    plain_steps (resolving_at c (resolutions.Checking f)) (reply.Looked (Some row)) n refl refl refl (reaches A told c f.q f.request row n failed.asked name by)
    (equal_room (reached_left f.request) checking_left (ap reached_left failed.resolves)) (λ g x p served is h. absurd (found_never told c f failed row g x served h.told)) (λ x h. h.now)
    tt tt (λ h. tt) (past_derives _ [] n.stage past) (λ r e w frames facts. subst (λ (k : Request). GoesOnWith k row.value.class (task_at c n.stage) n.turn) (some_same f.request r e) goes) plain

-- memory ran out at what was found
memory_goes : {A : Type 0} (q : ℕ) (r : Request) (k : Class) (new : Tasked) (n : Next A) → n ≡ memory_ends q r → GoesOnWith r k new n.turn
memory_goes q (requests.Load l m) k new n e = subst (λ (i : Next _). GoesOnWith (requests.Load l m) k new i.turn) (sym e) (inr refl)
memory_goes q (requests.Resolve l m i) k new n e = subst (λ (j : Next _). GoesOnWith (requests.Resolve l m i) k new j.turn) (sym e) refl
memory_goes q (requests.Link l m) k new n e = subst (λ (i : Next _). GoesOnWith (requests.Link l m) k new i.turn) (sym e) refl

pub found_out : {A : Type 0} (told : Option Content) (c : Configured) (f : Failed A) (row : Arc (ClassRow A) Global) → IsFailed told c f → Steps {A = A} told (resolving_at c (resolutions.Checking f)) (reply.Looked (Some row)) (memory_ends f.q f.request)
found_out {A = A} told c f row failed =
    memory_steps told (resolving_at c (resolutions.Checking f)) f.request (reply.Looked (Some row)) refl failed.asked (omega arith) (λ w p s. omega arith) tt tt tt (λ h. tt)
    (λ r e w frames facts. subst (λ (k : Request). GoesOnWith {A = A} k row.value.class (task_at {A = A} c (memory_ends f.q f.request).stage) (memory_ends f.q f.request).turn) (some_same f.request r e) (memory_goes f.q f.request row.value.class (task_at {A = A} c (memory_ends f.q f.request).stage) (memory_ends f.q f.request) refl))

pub unfound_out : {A : Type 0} (told : Option Content) (c : Configured) (f : Failed A) → IsFailed told c f → Steps {A = A} told (resolving_at c (resolutions.Checking f)) (reply.Looked None) (memory_ends f.q f.request)
unfound_out told c f failed = memory_steps told (resolving_at c (resolutions.Checking f)) f.request (reply.Looked None) refl failed.asked (omega arith) (λ w p s. omega arith) tt tt tt (λ h. tt) tt

-- ---- nothing was found, and the verdict stands

-- what was told where nothing was found
abbrev Unfound : (A : Type 0) → Configured → Failed A → Shown → Type 0
Unfound A c f x = Tells {A = A} x (resolving_at c (resolutions.Checking f)) (reply.Looked None)

failed_stood : {A : Type 0} (told : Option Content) (c : Configured) (f : Failed A) (failed : IsFailed told c f) → Rests told f.finding → IsWithin (length c.loaders) f.finding → Stood told c f.request failed.verdict failed.basis (Unfound A c f)
failed_stood told c f failed rests within =
    let whole = failed_whole told c f failed in
    record {
      rests = subst (λ (k : Answered). Rests told k) whole rests;
      config = failed.config;
      unprepared = failed.unprepared;
      needs = λ x h. so_met x failed.basis (failed_facts told c f failed x h.before.facts);
      refused = λ x h. so_refuses x failed.basis (failed_facts told c f failed x h.before.facts);
      within = λ x config named h. subst (λ (k : Configured). IsWithin (length k.loaders) (grounded_answer f.request failed.verdict failed.basis)) (sym config) (subst (λ (k : Answered). IsWithin (length c.loaders) k) whole within);
    }

-- of a request to resolve, where its class is not recorded, the tables bear any verdict
unreached_bears : (s : State) (r : Request) (i : ℕ) (v : verdict.Verdict) → r ≡ requests.Resolve (loader_of r) (name_of r) i → recorded_definer s.records (loader_of r) (name_of r) ≡ None → Bears s (request_of r) (verdict_of v)
unreached_bears s r i v is free = subst (λ (k : Request). Bears s (request_of k) (verdict_of v)) (sym is) (λ d kept. absurd (none-some _ (sym free ∙ kept.1)))

-- and what it answers is what it comes to
unreached_answers : (g : Setting) (s : State) (r : Request) (i : ℕ) (v : verdict.Verdict) → r ≡ requests.Resolve (loader_of r) (name_of r) i → recorded_definer s.records (loader_of r) (name_of r) ≡ None → AnswersPlan g s (request_of r) (verdict_of v) → ComesTo g s (request_of r) (verdict_of v)
unreached_answers g s r i v is free answer =
    let q = plans.Resolve (loader_of r) (name_of r) i in
    let here : AnswersPlan g s q (verdict_of v) = subst (λ (k : Request). AnswersPlan g s (request_of k) (verdict_of v)) is answer in
    subst (λ (k : Request). ComesTo g s (request_of k) (verdict_of v)) (sym is)
    (said_comes g s q (verdict_of v) (resolve_wants (loader_of r) (name_of r) i) (borne_said g s q (verdict_of v) (unrecorded_bears g s q (verdict_of v) free here) here))

failed_comes : {A : Type 0} (told : Option Content) (c : Configured) (f : Failed A) (failed : IsFailed told c f) → Stood told c f.request failed.verdict failed.basis (Unfound A c f) → (g : Setting) (x : Shown) → ServedIn told c g (state_of x) → Unfound A c f x
    → ComesTo g (state_of x) (request_of f.request) (verdict_of failed.verdict)
failed_comes told c f failed stood g x served h =
    let free = failed_unrecorded told c f failed g x served h.before.facts in
    unreached_answers g (state_of x) f.request failed.index failed.verdict failed.resolves free (stood_answers told c f.request failed.verdict failed.basis (Unfound _ c f) stood g x served h)

failed_leads : {A : Type 0} (told : Option Content) (c : Configured) (f : Failed A) (failed : IsFailed told c f) → Stood told c f.request failed.verdict failed.basis (Unfound A c f)
    → LeadsOn {A = A} told c f.q f.request (task_room (resolving_at c (resolutions.Checking f))) (Unfound A c f) (λ x. TellsNow {A = A} x (resolving_at c (resolutions.Checking f)) (reply.Looked None))
    (record { stage = stages.Done f.q; turn = turn.Post (grounded_answer f.request failed.verdict failed.basis) })
failed_leads {A = A} told c f failed stood =
    let r = f.request in
    let v = failed.verdict in
    let b = failed.basis in
    leads_post refl (omega arith) (λ w p s. omega arith)
    (λ x config named consistent h. record {
      within = stood.within x config named h.told;
      answer = record {
        grounded = inr (record { within = stood.within x config named h.told; basis = borne told c r v b (Unfound A c f) stood x config h.told });
        borne = unreached_bears (state_of x) r failed.index v failed.resolves h.unrecorded;
      };
    })
    (λ g x served h. failed_comes told c f failed stood g x served h)

pub unfound_steps : {A : Type 0} (told : Option Content) (c : Configured) (f : Failed A) (n : Next A) → IsFailed told c f → Rests told f.finding → IsWithin (length c.loaders) f.finding → n ≡ record { stage = stages.Done f.q; turn = turn.Post f.finding }
    → Steps told (resolving_at c (resolutions.Checking f)) (reply.Looked None) n
unfound_steps {A = A} told c f n failed rests within is =
    let at : n ≡ record { stage = stages.Done f.q; turn = turn.Post (grounded_answer f.request failed.verdict failed.basis) } =
    is ∙ ap (λ (k : Answered). record { stage = stages.Done f.q; turn = turn.Post k }) (failed_whole told c f failed) in
    subst (λ (m : Next A). Steps told (resolving_at c (resolutions.Checking f)) (reply.Looked None) m) (sym at)
    (record {
      leads = failed_leads told c f failed (failed_stood told c f failed rests within);
      refused = tt;
      linkage = tt;
      blames = tt;
      lacks = λ h. tt;
      reads = tt;
      derives = tt;
      own = tt;
    })
