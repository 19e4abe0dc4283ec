-- A verdict with what it rests on: the tables bear it, and where a content is told the service has come to it, or settles the reference to it.
use Rattle.std.proofs.Common.{◌≡◌, ◌∙◌, ℕ, List, [], length, Option, Some, None, inr, refl, sym, ap, subst}
use Rattle.std.specs.Prelude.{IfSome, Contains, option_map}
use Rattle.std.specs.List.{AllByRecursion}
use Rattle.cl_model.specs.declared.answer.Answer.{Answer}
use Rattle.cl_model.specs.declared.answer.Answer.TheVariants as answers
use Rattle.cl_model.specs.declared.class.Class.{Class}
use Rattle.cl_model.specs.declared.request.Request.{Request}
use Rattle.cl_model.specs.declared.request.Request.TheVariants as requests
use Rattle.cl_model.specs.declared.verdict.Verdict as verdict
use Rattle.cl_model.specs.declared.verdict.Verdict.TheVariants as verdicts
use Rattle.cl_model.specs.Classes.{class}
use Rattle.cl_model.specs.Content.{Content}
use Rattle.cl_model.specs.Machine.{AnswersPlan, IsSound, Setting, Settle}
use Rattle.cl_model.specs.Plans as plans
use Rattle.cl_model.specs.Service.{ComesTo, IsNextStep}
use Rattle.cl_model.specs.States.{State, Need, Verdict, AllMet, Entry, Equal, IsClass, Refused, recorded_definer, settled_to}
use Rattle.cl_model.specs.States as states
use Rattle.cl_model.specs.Tables.{Bears}
use Rattle.cl_model.specs.Views.{request_of, verdict_of}
use Rattle.cl_model.specs.Homes.{World}
use Rattle.cl_model.proofs.Frames.{answers_here}
use Rattle.cl_model.proofs.Gone.{borne_said, link_record_comes, unreached_comes, unrecorded_bears}
use Rattle.cl_model.proofs.Looks.{recorded_answers}
use Rattle.cl_model.proofs.Pieces.{settle_next}
use Rattle.cl_model.proofs.Planned.{plan_exists}
use Rattle.cl_model.proofs.Reached.{plan_is_reference}
use Rattle.cl_model.proofs.Service.{load_comes, resolve_wants, said_comes}
use Rattle.cl_model.proofs.Sound.{one_plan_answer}
use Rattle.cl_model.proofs.Tables.{reached_records, recorded_reached}
use Rattle.cl_model.proofs.Progress.{met_split}
use Rattle.cl_config.specs.Views.{Configured, Scripted}
use Rattle.cl_delegation.specs.Worlds.{setting_of, world_of}
use Rattle.cl_findings.specs.Findings.{Answered, Based, Concludes, HasImposed, IsBorne, IsWithin, Rests, VerdictRests, loader_of, name_of, grounded_answer}
use Rattle.cl_registry.specs.Posting.{IsBacked}
use Rattle.cl_registry.specs.References.{cited_by}
use Rattle.cl_registry.specs.Settling as settling
use Rattle.cl_registry.specs.Settling.{IsSettledKind}
use Rattle.cl_registry.specs.Tables.{Shown, NamesLoaders, records_of, state_of}
use Rattle.cl_registry.proofs.Binding.{apart_is}
use Rattle.cl_tasks.specs.Follows.{IsSettledNext, ServedIn}
use Rattle.cl_tasks.specs.Ends.{IsNoResolution}
use Rattle.cl_tasks.specs.Stages.{IsFailure, load_alone}
use Rattle.std.proofs.lemmas.Option.{none-some}
use Rattle.cl_findings.proofs.Answered.{answered_by}

-- a finding is of its parts
pub found_is : (f : Answered) (r : Request) (v : verdict.Verdict) (b : Based) → f.request ≡ r → f.answer ≡ answers.Said v → f.basis ≡ Some b → f ≡ grounded_answer r v b
found_is f r v b request answer basis =
    ap (λ (q : Request). record { request = q; answer = f.answer; basis = f.basis }) request
    ∙ ap (λ (a : Answer). record { request = r; answer = a; basis = f.basis }) answer
    ∙ ap (λ (o : Option Based). record { request = r; answer = answers.Said v; basis = o }) basis

-- ---- what stands

-- what a verdict rests on, where this holds: no class is to be prepared for it
pub record Stood (told : Option Content) (c : Configured) (r : Request) (v : verdict.Verdict) (b : Based) (holds : Shown → Type 0) : Type 0 where
  pub rests : Rests told (grounded_answer r v b)
  pub config : b.config ≡ c
  pub unprepared : b.prepared ≡ []
  pub needs : (x : Shown) → holds x → AllMet (state_of x) b.needs
  pub refused : (x : Shown) → holds x → IfSome b.refused (Refused (state_of x))
  pub within : (x : Shown) → x.config ≡ c → NamesLoaders x → holds x → IsWithin (length x.config.loaders) (grounded_answer r v b)

pub borne : (told : Option Content) (c : Configured) (r : Request) (v : verdict.Verdict) (b : Based) (holds : Shown → Type 0) → Stood told c r v b holds → (x : Shown) → x.config ≡ c → holds x → IsBorne x.config (state_of x) b
borne told c r v b holds stood x config h = record {
  config = stood.config ∙ sym config;
  carried = (stood.needs x h, subst (λ (cs : List Class). AllByRecursion (Contains (state_of x).prepared) cs) (sym stood.unprepared) tt, stood.refused x h);
}

-- ---- where a content is told

-- what rests on its basis is the conclusion, where that stands
rests_concludes : (content : Content) (c : Configured) (script : Scripted) (s : State) (r : Request) (v : verdict.Verdict) (b : Based) → Rests (Some content) (grounded_answer r v b) → b.config ≡ c → b.prepared ≡ [] → IsSound (setting_of c script content) s → AllMet s b.needs
    → Concludes (world_of c content) s (request_of r) b.refused b.before (verdict_of v)
rests_concludes content c script s r v b rests config bare sound needs =
    let w : World = world_of c content in
    let h : VerdictRests w r v b = subst (λ (k : Configured). VerdictRests (world_of k content) r v b) config rests in
    h.concludes s sound.closed (record { needs = needs; prepared = subst (λ (cs : List Class). AllByRecursion (HasImposed w s) cs) (sym bare) tt })

-- the same where the request is served
pub concludes_at : (told : Option Content) (c : Configured) (g : Setting) (s : State) (r : Request) (v : verdict.Verdict) (b : Based) → ServedIn told c g s → Rests told (grounded_answer r v b) → b.config ≡ c → b.prepared ≡ [] → AllMet s b.needs
    → Concludes g.world s (request_of r) b.refused b.before (verdict_of v)
concludes_at told c g s r v b served rests config bare needs =
    subst (λ (k : Setting). Concludes k.world s (request_of r) b.refused b.before (verdict_of v)) (sym served.setting)
    (rests_concludes served.content c served.script s r v b (subst (λ (t : Option Content). Rests t (grounded_answer r v b)) served.told_so rests) config bare (subst (λ (k : Setting). IsSound k s) served.setting served.sound) needs)

-- the same of what stands
pub stood_concludes : (told : Option Content) (c : Configured) (r : Request) (v : verdict.Verdict) (b : Based) (holds : Shown → Type 0) → Stood told c r v b holds → (g : Setting) (x : Shown) → ServedIn told c g (state_of x) → holds x
    → Concludes g.world (state_of x) (request_of r) b.refused b.before (verdict_of v)
stood_concludes told c r v b holds stood g x served h = concludes_at told c g (state_of x) r v b served stood.rests stood.config stood.unprepared (stood.needs x h)

pub stood_answers : (told : Option Content) (c : Configured) (r : Request) (v : verdict.Verdict) (b : Based) (holds : Shown → Type 0) → Stood told c r v b holds → (g : Setting) (x : Shown) → ServedIn told c g (state_of x) → holds x
    → AnswersPlan g (state_of x) (request_of r) (verdict_of v)
stood_answers told c r v b holds stood g x served h =
    answered_by g (state_of x) (request_of r) b.refused b.before (verdict_of v) (stood_concludes told c r v b holds stood g x served h) (stood.refused x h)

-- ---- references

-- the class of a request to resolve an entry is recorded, and it may be settled
pub record Settling (r : Request) (d : Class) (i : ℕ) (v : verdict.Verdict) (holds : Shown → Type 0) : Type 0 where
  pub resolves : r ≡ requests.Resolve (loader_of r) d.name i
  pub kept : (x : Shown) → holds x → recorded_definer (records_of x) (loader_of r) d.name ≡ Some d.loader
  pub kind : IsSettledKind v

cited_so : (x : Shown) (r : Request) (d : Class) (i l : ℕ) → r ≡ requests.Resolve l d.name i → recorded_definer (records_of x) l d.name ≡ Some d.loader → cited_by x r ≡ Some (record { class = d; index = i })
cited_so x r d i l is kept =
    ap (cited_by x) is
    ∙ ap (λ (o : Option ℕ). option_map (λ place. record { class = class d.name place; index = i }) o) kept

-- it may be settled in the tables
pub may_settle : (told : Option Content) (c : Configured) (r : Request) (d : Class) (i : ℕ) (v : verdict.Verdict) (b : Based) (holds : Shown → Type 0) → Stood told c r v b holds → Settling r d i v holds → (x : Shown) → x.config ≡ c → NamesLoaders x → holds x
    → settling.FindingSettles x (grounded_answer r v b)
may_settle told c r d i v b holds stood may x config named h = (
  record { class = d; index = i; verdict = v },
  record {
    cited = cited_so x r d i (loader_of r) may.resolves (may.kept x h);
    says = record { said = refl; kind = may.kind };
    stands = record { within = stood.within x config named h; basis = borne told c r v b holds stood x config h };
  },
)

-- past the load of its class the answer of a resolution settles its reference next
answer_settles : (g : Setting) (s : State) (l : ℕ) (d : Class) (i : ℕ) (v : verdict.Verdict) → IsSound g s → recorded_definer s.records l d.name ≡ Some d.loader → AnswersPlan g s (plans.Resolve l d.name i) (verdict_of v) → IsSettledKind v
    → settled_to s.settled d i ≡ None → IsNextStep g s (plans.Resolve l d.name i) (Settle d i (verdict_of v))
answer_settles g s l d i v sound kept answer kind unsettled =
    let p = plan_exists g.world (plans.Resolve l d.name i) in
    let at = recorded_reached g.world s (plans.Resolve l d.name i) p.0 d.loader sound.closed p.1 kept in
    settle_next g s l d.name i p.0 d (verdict_of v) p.1 at.0 at.1 (record {
      may_keep = record {
        recorded = sound.closed.own l d.loader d.name kept;
        unsettled = unsettled;
        settling = record { is_entry = (apart_is v).0 kind.is_entry; is_class_member = (apart_is v).1 kind.is_class_member };
      };
      answered = plan_is_reference g s l d.name i p.0 d (verdict_of v) p.1 at.0 at.1 answer;
    })

pub settled_next : (told : Option Content) (c : Configured) (r : Request) (d : Class) (i : ℕ) (v : verdict.Verdict) (b : Based) (holds : Shown → Type 0) → Stood told c r v b holds → Settling r d i v holds → (g : Setting) (x : Shown) → ServedIn told c g (state_of x) → holds x
    → IsSettledNext g (state_of x) r (grounded_answer r v b)
settled_next told c r d i v b holds stood may g x served h =
    let l = loader_of r in
    let s = state_of x in
    let q : Request = requests.Resolve l d.name i in
    let answer : AnswersPlan g s (request_of r) (verdict_of v) = stood_answers told c r v b holds stood g x served h in
    subst (λ (k : Request). IsSettledNext g s k (grounded_answer k v b)) (sym may.resolves)
    (record {
      class = d;
      kept = (refl, may.kept x h);
      verdict = v;
      said = refl;
      step =
          answer_settles g s l d i v served.sound (may.kept x h) (subst (λ (k : Request). AnswersPlan g s (request_of k) (verdict_of v)) may.resolves answer) may.kind;
    })

-- ---- answers of loads and links

pub failure_kind : (v : verdict.Verdict) → IsFailure v → IsSettledKind v
failure_kind v h = record { is_entry = λ e. subst IsFailure e h; is_class_member = λ e. subst IsFailure e h }

-- a failure is no class, and no linked class
failure_of : (v : verdict.Verdict) (c : Class) → IsFailure v → (verdict_of v ≡ IsClass c → ⊥) × (verdict_of v ≡ states.IsLinked c → ⊥)
failure_of (verdicts.Error kind d) c h = (λ e. absurd cc, λ e. absurd cc)
failure_of (verdicts.Linkage n) c h = (λ e. absurd cc, λ e. absurd cc)
failure_of other c h = absurd h

-- the tables bear a failure of a request that is none to resolve
failure_bears : (s : State) (r : Request) (v : verdict.Verdict) → IsNoResolution r → IsFailure v → Bears s (request_of r) (verdict_of v)
failure_bears s (requests.Load l n) v apart h = λ c e. absurd ((failure_of v c h).0 e)
failure_bears s (requests.Resolve l n i) v apart h = absurd (apart tt)
failure_bears s (requests.Link l n) v apart h = λ c e. absurd ((failure_of v c h).1 e)

pub failure_backed : (told : Option Content) (c : Configured) (r : Request) (v : verdict.Verdict) (b : Based) (holds : Shown → Type 0) → Stood told c r v b holds → IsNoResolution r → IsFailure v → (x : Shown) → x.config ≡ c → NamesLoaders x → holds x
    → IsBacked x (grounded_answer r v b)
failure_backed told c r v b holds stood apart failure x config named h = record {
  within = stood.within x config named h;
  answer = record {
    grounded = inr (record { within = stood.within x config named h; basis = borne told c r v b holds stood x config h });
    borne = failure_bears (state_of x) r v apart failure;
  };
}

-- ---- a failure of the load of a request's own class

-- what is refused in a load is a record
abbrev pub IsRecordIn : Option Need → Type 0
IsRecordIn None = Unit {0}
IsRecordIn (Some (Entry loader name place)) = Unit {0}
IsRecordIn (Some (Equal name a b)) = ⊥

-- the same verdict rests on the same, whatever the request asks past its load
pub record OwnFails (told : Option Content) (c : Configured) (r : Request) (v : verdict.Verdict) (b : Based) (holds : Shown → Type 0) : Type 0 where
  pub stood : Stood told c r v b holds
  pub failure : IsFailure v
  pub load : Rests told (grounded_answer (load_alone r) v b)
  pub record_is : IsRecordIn b.refused

-- where its load fails, the class of a request is not recorded
pub unrecorded : (g : Setting) (s : State) (l : ℕ) (n : List ℕ) (v : verdict.Verdict) → IsSound g s → IsFailure v → AnswersPlan g s (plans.Load l n) (verdict_of v) → recorded_definer s.records l n ≡ None
unrecorded g s l n v sound failure answer = step (recorded_definer s.records l n) refl
  where
    step : (o : Option ℕ) → recorded_definer s.records l n ≡ o → o ≡ None
    step None e = refl
    step (Some place) e = absurd ((failure_of v (class n place) failure).0 (one_plan_answer g s (plans.Load l n) (verdict_of v) (IsClass (class n place)) answer (recorded_answers g s l place n sound.closed e)))

own_unrecorded : (told : Option Content) (c : Configured) (r : Request) (v : verdict.Verdict) (b : Based) (holds : Shown → Type 0) → OwnFails told c r v b holds → (g : Setting) (x : Shown) → ServedIn told c g (state_of x) → holds x
    → recorded_definer (records_of x) (loader_of r) (name_of r) ≡ None
own_unrecorded told c r v b holds own g x served h =
    let stood = own.stood in
    let load : Stood told c (load_alone r) v b holds = record {
      rests = own.load;
      config = stood.config;
      unprepared = stood.unprepared;
      needs = stood.needs;
      refused = stood.refused;
      within = λ y config named k. let w = stood.within y config named k in record { loader = w.loader; answer = w.answer };
    } in
    unrecorded g (state_of x) (loader_of r) (name_of r) v served.sound own.failure (stood_answers told c (load_alone r) v b holds load g x served h)

-- a link whose class is not recorded comes to it
link_comes_so : (g : Setting) (s : State) (l : ℕ) (n : List ℕ) (o : Option Need) (cs : List Class) (v : Verdict) → recorded_definer s.records l n ≡ None → IsRecordIn o → Concludes g.world s (plans.Link l n) o cs v → IfSome o (Refused s) → ComesTo g s (plans.Link l n) v
link_comes_so g s l n None cs v free is h refused = unreached_comes g s (plans.Link l n) h.plan v h.planned (unreached h.plan.reached refl) (answers_here g s (plans.Link l n) v h)
  where
    unreached : (o : Option Class) → h.plan.reached ≡ o → h.plan.reached ≡ None
    unreached None e = e
    unreached (Some d) e =
        let at = reached_records g.world s (plans.Link l n) h.plan d h.planned e (met_split s h.plan.own h.plan.more h.met).0 in
        absurd (none-some _ (sym free ∙ at.1))
link_comes_so g s l n (Some (Entry loader name place)) cs v free is h refused = subst (λ (u : Verdict). ComesTo g s (plans.Link l n) u) (sym h.linkage) (link_record_comes g s l loader place n name h.next refused)
link_comes_so g s l n (Some (Equal name a b)) cs v free is h refused = absurd is

-- so the service of the request comes to it
pub own_comes : (told : Option Content) (c : Configured) (r : Request) (v : verdict.Verdict) (b : Based) (holds : Shown → Type 0) → OwnFails told c r v b holds → (g : Setting) (x : Shown) → ServedIn told c g (state_of x) → holds x → ComesTo g (state_of x) (request_of r) (verdict_of v)
own_comes told c (requests.Load l n) v b holds own g x served h = load_comes g (state_of x) l n (verdict_of v) (stood_answers told c (requests.Load l n) v b holds own.stood g x served h)
own_comes told c (requests.Resolve l n i) v b holds own g x served h =
    let s = state_of x in
    let q = plans.Resolve l n i in
    let answer : AnswersPlan g s q (verdict_of v) = stood_answers told c (requests.Resolve l n i) v b holds own.stood g x served h in
    let free = own_unrecorded told c (requests.Resolve l n i) v b holds own g x served h in
    said_comes g s q (verdict_of v) (resolve_wants l n i) (borne_said g s q (verdict_of v) (unrecorded_bears g s q (verdict_of v) free answer) answer)
own_comes told c (requests.Link l n) v b holds own g x served h =
    let s = state_of x in
    let free = own_unrecorded told c (requests.Link l n) v b holds own g x served h in
    link_comes_so g s l n b.refused b.before (verdict_of v) free own.record_is (stood_concludes told c (requests.Link l n) v b holds own.stood g x served h) (own.stood.refused x h)
