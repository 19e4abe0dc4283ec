-- How a load ends otherwise than with its class: of the request's own class that is answered, or looked for once more; of a reference's it is settled.
use Rattle.std.proofs.Common.{◌≡◌, ◌∙◌, ◌<◌, ◌≤◌, ◌+◌, ℕ, List, length, Option, Some, refl, sym, ap, subst, arith}
use Rattle.cl_model.specs.declared.class.Class.{Class}
use Rattle.cl_model.specs.declared.request.Request.{Request}
use Rattle.cl_model.specs.declared.request.Request.TheVariants as requests
use Rattle.cl_model.specs.declared.verdict.Verdict as verdict
use Rattle.cl_model.specs.Content.{Content}
use Rattle.cl_model.specs.Homes.{World}
use Rattle.cl_model.specs.Plans.{Plan}
use Rattle.cl_model.specs.States.{State, recorded_definer}
use Rattle.cl_findings.specs.declared.load.Target.{Target}
use Rattle.cl_findings.specs.declared.load.Target.TheVariants as targets
use Rattle.cl_findings.specs.Findings.{Based, Rests, loader_of, name_of, grounded_answer}
use Rattle.cl_registry.specs.Tables.{Shown, records_of, state_of}
use Rattle.cl_tasks.specs.Calls.{calls_in, past_loads}
use Rattle.cl_tasks.specs.Ends.{ConcludesBy, IsAftermath, IsCheck, IsForEntry, IsNoResolution, IsOwnTarget}
use Rattle.cl_tasks.specs.Facts.{AreSo}
use Rattle.cl_tasks.specs.Measures.{checking_left}
use Rattle.cl_tasks.specs.Rooms.{past_room}
use Rattle.cl_tasks.specs.Stages.{IsFailure, IsJob, load_alone, past_calls, past_left, target_facts}
use Rattle.cl_tasks.specs.Steps.{Leads}
use Rattle.cl_tasks.specs.Waits as waits
use Rattle.cl_tasks.specs.declared.ends.Aftermath.{Aftermath}
use Rattle.cl_tasks.specs.declared.ends.Aftermath.TheVariants as aftermaths
use Rattle.cl_tasks.specs.declared.stage.Entry as entries
use Rattle.cl_tasks.specs.declared.stage.Job.{Job}
use Rattle.cl_tasks.specs.declared.stage.Next.{Next}
use Rattle.cl_tasks.specs.declared.stage.Resolution.TheVariants as resolutions
use Rattle.cl_tasks.specs.declared.stage.Stage.TheVariants as stages
use Rattle.cl_tasks.specs.declared.turn.Turn.TheVariants as turn
use Rattle.cl_tasks.proofs.Facts.{basis_so}
use Rattle.cl_tasks.proofs.Lead.{leads_post, past_has}
use Rattle.cl_tasks.proofs.Said.{IsRecordIn, OwnFails, Settling, Stood, failure_backed, failure_kind, may_settle, own_comes, settled_next}

-- what a load ends in, where this holds
pub record Ended {A : Type 0} (told : Option Content) (j : Job A) (v : verdict.Verdict) (b : Based) (holds : Shown → Type 0) : Type 0 where
  pub stood : Stood told j.path.config j.request v b holds
  pub failure : IsFailure v
  pub load : IsOwnTarget j.target → Rests told (grounded_answer (load_alone j.request) v b)
  pub record_is : IsRecordIn b.refused
  pub facts : (x : Shown) → holds x → AreSo x (target_facts j.request j.target)

-- ---- the answer of a load or a link

own_fails : {A : Type 0} (told : Option Content) (j : Job A) (v : verdict.Verdict) (b : Based) (holds : Shown → Type 0) → Ended told j v b holds → IsOwnTarget j.target → OwnFails told j.path.config j.request v b holds
own_fails told j v b holds e own = record { stood = e.stood; failure = e.failure; load = e.load own; record_is = e.record_is }

pub some_left : {A : Type 0} (t : Target A) → 0 < past_left t
some_left targets.Own = omega arith
some_left (targets.Reference d) = omega arith

answers_so : {A : Type 0} (told : Option Content) (j : Job A) (v : verdict.Verdict) (b : Based) (holds : Shown → Type 0) → IsJob told j.path.config j → Ended told j v b holds → IsOwnTarget j.target × IsNoResolution j.request
    → Leads told j (past_room j) holds (record { stage = stages.Done j.q; turn = turn.Post (grounded_answer j.request v b) })
answers_so told j v b holds job e is =
    leads_post refl (some_left j.target) (past_has j) (λ x config named consistent h. failure_backed told j.path.config j.request v b holds e.stood is.1 e.failure x config named h)
    (λ g x s h. own_comes told j.path.config j.request v b holds (own_fails told j v b holds e is.0) g x s h)

-- ---- the second look of a resolution

check_less : {A : Type 0} (t : Target A) → IsOwnTarget t → checking_left < past_left t
check_less targets.Own own = omega arith
check_less (targets.Reference d) own = absurd own

check_calls : {A : Type 0} (r : Request) (t : Target A) (loader : ℕ) (name : List ℕ) (i : ℕ) (w : World) (p : Plan) (s : State) → IsOwnTarget t → r ≡ requests.Resolve loader name i
    → 0 + calls_in (past_loads 0 0 2) w p s ≤ calls_in (past_calls r t) w p s
check_calls {A = A} r targets.Own loader name i w p s own is =
    subst (λ (q : Request). 0 + calls_in (past_loads 0 0 2) w p s ≤ calls_in (past_calls {A = A} q targets.Own) w p s) (sym is) (omega arith)
check_calls r (targets.Reference d) loader name i w p s own is = absurd own

checks_so : {A : Type 0} (told : Option Content) (j : Job A) (v : verdict.Verdict) (b : Based) (holds : Shown → Type 0) (r : Request) (loader : ℕ) (name : List ℕ) → IsJob told j.path.config j → Ended told j v b holds → IsCheck j r loader name
    → Leads told j (past_room j) holds (record { stage = stages.Resolve (resolutions.Checking (record { q = j.q; request = r; finding = grounded_answer j.request v b })); turn = turn.Look loader name })
checks_so told j v b holds r loader name job e is =
    let load : Rests told (grounded_answer (load_alone r) v b) = subst (λ (q : Request). Rests told (grounded_answer (load_alone q) v b)) (sym is.same) (e.load is.own) in
    record {
      kept = record {
        index = is.index;
        resolves = is.resolves ∙ ap (λ (q : Request). requests.Resolve (loader_of q) (name_of q) is.index) (sym is.resolves);
        same = sym is.same;
        asked = subst (λ (q : Request). loader_of q < length j.path.config.loaders) (sym is.same) job.asked;
        verdict = v;
        said = refl;
        basis = b;
        rests_on = refl;
        config = e.stood.config;
        unprepared = e.stood.unprepared;
        failure = e.failure;
        own = load;
      };
      number = refl;
      asks = ap (λ (q : Request). waits.Looking (loader_of q) (name_of q)) is.resolves;
      serves = ap Some is.same;
      left = check_less j.target is.own;
      calls = λ g x p served plan h. check_calls j.request j.target loader name is.index g.world p (state_of x) is.own (sym is.same ∙ is.resolves);
      keeps = λ x h. record { frames = tt; facts = basis_so x b (e.stood.needs x h) (e.stood.refused x h) };
      backed = λ x config named consistent h. tt;
      follows = λ g x s h. tt;
    }

-- ---- what a reference is settled to

settle_less : {A : Type 0} (t : Target A) (d : _) → t ≡ targets.Reference d → 1 < past_left t
settle_less targets.Own d is = absurd cc
settle_less (targets.Reference e) d is = omega arith

settle_calls : {A : Type 0} (r : Request) (t : Target A) (d : _) (w : World) (p : Plan) (s : State) → t ≡ targets.Reference d → 0 + calls_in (past_loads 0 0 2) w p s ≤ calls_in (past_calls r t) w p s
settle_calls r targets.Own d w p s is = absurd cc
settle_calls r (targets.Reference e) d w p s is = omega arith

settles_so : {A : Type 0} (told : Option Content) (j : Job A) (v : verdict.Verdict) (b : Based) (holds : Shown → Type 0) (e : entries.Entry A) → IsJob told j.path.config j → Ended told j v b holds → IsForEntry j e
    → Leads told j (past_room j) holds (record { stage = stages.Resolve (resolutions.Settling e); turn = turn.Settle (grounded_answer j.request v b) })
settles_so told j v b holds e job ended is =
    let c = j.path.config in
    let d = e.d.value.class in
    let rows : is.row.value.class ≡ d = ap (λ r. r.class) (sym is.class) in
    let kept : (x : Shown) → holds x → recorded_definer (records_of x) (loader_of j.request) d.name ≡ Some d.loader =
    λ x h.
    subst (λ (k : Class). recorded_definer (records_of x) (loader_of j.request) k.name ≡ Some k.loader) rows
    (subst (λ (t : Target _). AreSo x (target_facts j.request t)) is.target (ended.facts x h)).0 in
    let resolves : j.request ≡ requests.Resolve (loader_of j.request) d.name e.index =
    sym is.same ∙ is.of ∙ ap (λ (q : Request). requests.Resolve (loader_of q) d.name e.index) is.same in
    let may : Settling j.request d e.index v holds = record {
      resolves = resolves;
      kept = kept;
      kind = failure_kind v ended.failure;
    } in
    record {
      kept = record { of = is.of; asked = subst (λ (q : Request). loader_of q < length c.loaders) (sym is.same) job.asked };
      number = is.number;
      asks = ap (λ (q : Request). waits.Settling q) is.same;
      serves = (refl, ap Some is.same);
      left = settle_less j.target is.row is.target;
      calls = λ g x p served plan h. settle_calls j.request j.target is.row g.world p (state_of x) is.target;
      keeps = λ x h. record {
        frames = tt;
        facts = (subst (λ (q : Request). recorded_definer (records_of x) (loader_of q) d.name ≡ Some d.loader) (sym is.same) (kept x h), tt);
      };
      backed = λ x config named consistent h. may_settle told c j.request d e.index v b holds ended.stood may x config named h;
      follows = λ g x s h. settled_next told c j.request d e.index v b holds ended.stood may g x s h;
    }

-- ---- all

pub concludes : {A : Type 0} (told : Option Content) (j : Job A) (v : verdict.Verdict) (b : Based) (holds : Shown → Type 0) (a : Aftermath A) (n : Next A) → IsJob told j.path.config j → Ended told j v b holds → IsAftermath j a
    → ConcludesBy j.q a (grounded_answer j.request v b) n → Leads told j (past_room j) holds n
concludes told j v b holds aftermaths.Answer n job e is by = subst (λ (m : Next _). Leads told j (past_room j) holds m) (sym by) (answers_so told j v b holds job e is)
concludes told j v b holds (aftermaths.Check r loader name) n job e is by = subst (λ (m : Next _). Leads told j (past_room j) holds m) (sym by) (checks_so told j v b holds r loader name job e is)
concludes told j v b holds (aftermaths.Settle entry) n job e is by = subst (λ (m : Next _). Leads told j (past_room j) holds m) (sym by) (settles_so told j v b holds entry job e is)
