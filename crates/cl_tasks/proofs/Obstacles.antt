-- What stops a derivation, and a record that is refused, as the end of a load.
use Rattle.std.proofs.Common.{◌≡◌, ◌∙◌, ◌<◌, ℕ, List, ◌++◌, length, Option, Some, refl, sym, ap, subst}
use Rattle.cl_model.specs.declared.class.Class.{Class}
use Rattle.cl_model.specs.declared.need.Need as rust
use Rattle.cl_model.specs.declared.need.Need.TheVariants as needs
use Rattle.cl_model.specs.declared.request.Request.{Request}
use Rattle.cl_model.specs.declared.verdict.Verdict as verdict
use Rattle.cl_model.specs.declared.verdict.Verdict.TheVariants as verdicts
use Rattle.cl_model.specs.Content.{Content}
use Rattle.cl_model.specs.Frames.{kept_of}
use Rattle.cl_model.specs.States.{Need, AllMet, Entry, Equal, recorded_definer}
use Rattle.cl_model.specs.Views.{need_of}
use Rattle.cl_model.proofs.Stacks.{kept_is_met}
use Rattle.cl_model.proofs.Closed.{met_both}
use Rattle.cl_config.specs.Views.{Configured}
use Rattle.cl_hierarchy.specs.Paths.{Pathed, at_loader, at_name, frames_of}
use Rattle.cl_findings.specs.declared.load.NextRecord.{NextRecord}
use Rattle.cl_findings.specs.declared.load.NextRecord.TheVariants as nexts
use Rattle.cl_findings.specs.declared.load.Obstacle.{Obstacle}
use Rattle.cl_findings.specs.declared.load.Obstacle.TheVariants as obstacles
use Rattle.cl_findings.specs.declared.load.Target.{Target}
use Rattle.cl_findings.specs.declared.load.Target.TheVariants as targets
use Rattle.cl_findings.specs.Findings.{Based, IsWithin, Rests, loader_of, grounded_answer}
use Rattle.cl_findings.specs.Loads.{IsFor, Stops, basis_at, needs_at, next_need, next_needs, refused_at, target_needs, verdict_at}
use Rattle.cl_registry.specs.Allowed.{RecordedIsNamed}
use Rattle.cl_registry.specs.Tables.{Shown, NamesLoaders, records_of, state_of}
use Rattle.cl_tasks.specs.Ends.{EndRests, IsOwnTarget, NextRests, NextWithin, RefusedOn}
use Rattle.cl_tasks.specs.Facts.{AreSo}
use Rattle.cl_tasks.specs.Stages.{IsFailure, IsJob, load_alone, target_facts}
use Rattle.cl_tasks.specs.Steps.{EndTold, EndWithin, EndsOn, HoldsOn}
use Rattle.cl_tasks.specs.declared.stage.Job.{Job}
use Rattle.cl_tasks.proofs.Ending.{Ended}
use Rattle.cl_tasks.proofs.Keep.{all_kept}
use Rattle.cl_tasks.proofs.Said.{IsRecordIn}

-- what a job was told, as needs
pub target_met : {A : Type 0} (x : Shown) (r : Request) (t : Target A) → AreSo x (target_facts r t) → AllMet (state_of x) (target_needs r t)
target_met x r targets.Own h = tt
target_met x r (targets.Reference d) h = (h.0, tt)

pub path_met : {A : Type 0} (x : Shown) (j : Job A) (more : List Need) → HoldsOn j x → AllMet (state_of x) more → AllMet (state_of x) (target_needs j.request j.target ++ (kept_of (frames_of j.path) ++ more))
path_met x j more h met =
    met_both (state_of x) (target_needs j.request j.target) (kept_of (frames_of j.path) ++ more) (target_met x j.request j.target h.facts)
    (met_both (state_of x) (kept_of (frames_of j.path)) more ((kept_is_met (state_of x) (frames_of j.path)).1 (all_kept x (frames_of j.path) h.frames)) met)

-- a request to load the same class alone
own_for : {A : Type 0} (r : Request) (t : Target A) (p : Pathed) → IsOwnTarget t → IsFor r t p → IsFor {A = A} (load_alone r) targets.Own p
own_for r targets.Own p own h = record { loader = h.loader; name = h.name }
own_for r (targets.Reference d) p own h = absurd own

-- ---- obstacles

own_verdict : {A : Type 0} (t : Target A) (p : Pathed) (e : Obstacle A) → IsOwnTarget t → verdict_at {A = A} targets.Own p e ≡ verdict_at t p e
own_verdict targets.Own p e own = refl
own_verdict (targets.Reference d) p e own = absurd own

own_basis : {A : Type 0} (r : Request) (t : Target A) (p : Pathed) (e : Obstacle A) → IsOwnTarget t → basis_at {A = A} (load_alone r) targets.Own p e ≡ basis_at r t p e
own_basis r targets.Own p e own = refl
own_basis r (targets.Reference d) p e own = absurd own

is_failure : {A : Type 0} (t : Target A) (p : Pathed) (e : Obstacle A) → IsFailure (verdict_at t p e)
is_failure t p (obstacles.Missing u) = tt
is_failure t p (obstacles.Unreadable u) = tt
is_failure t p (obstacles.Circle h) = tt
is_failure t p (obstacles.Misfit row c kind) = tt

end_met : {A : Type 0} (x : Shown) (j : Job A) (e : Obstacle A) → Stops j.path e → EndTold x j.path e → AllMet (state_of x) (needs_at j.path e)
end_met x j (obstacles.Missing u) stops told = tt
end_met x j (obstacles.Unreadable u) stops told = tt
end_met x j (obstacles.Circle h) stops told = tt
end_met x j (obstacles.Misfit row c kind) stops told =
    (subst (λ (n : List ℕ). recorded_definer (records_of x) (at_loader j.path) n ≡ Some c.loader) (sym stops.1) (told.records.1 ∙ ap (λ (k : Class). Some k.loader) stops.0), tt)

moved : {c d : Configured} {n : ℕ} → c ≡ d → n < length c.loaders → n < length d.loaders
moved {n = n} e h = subst (λ (k : Configured). n < length k.loaders) e h

-- the class that an obstacle is about is of a loader of the configuration
end_within : {A : Type 0} (x : Shown) (r : Request) (t : Target A) (p : Pathed) (e : Obstacle A) → RecordedIsNamed → NamesLoaders x → p.config ≡ x.config → loader_of r < length p.config.loaders → at_loader p < length p.config.loaders → Stops p e
    → EndWithin (length p.config.loaders) e → EndTold x p e → IsWithin (length x.config.loaders) (grounded_answer r (verdict_at t p e) (basis_at r t p e))
end_within x r t p (obstacles.Missing u) law named config asked at stops within told = record {
  loader = moved config asked;
  answer = subst (λ (l : ℕ). l < length x.config.loaders) (sym stops.asked) (moved config at);
}
end_within x r t p (obstacles.Unreadable u) law named config asked at stops within told = record { loader = moved config asked; answer = moved config within }
end_within x r t p (obstacles.Circle h) law named config asked at stops within told = record { loader = moved config asked; answer = moved config within }
end_within x r t p (obstacles.Misfit row c kind) law named config asked at stops within told = record {
  loader = moved config asked;
  answer =
      subst (λ (k : Class). k.loader < length x.config.loaders) stops.0 (law x (at_loader p) row.value.class.loader (at_name p) named told.records.1);
}

-- an obstacle is the end of a load
pub obstacle_ends : {A : Type 0} (told : Option Content) (j : Job A) (e : Obstacle A) → RecordedIsNamed → IsJob told j.path.config j → EndRests told j.path e → Stops j.path e → EndWithin (length j.path.config.loaders) e
    → Ended told j (verdict_at j.target j.path e) (basis_at j.request j.target j.path e) (EndsOn j e)
obstacle_ends {A} told j e law job rests stops within = record {
  stood = record {
    rests = rests j.request j.target job.for_request job.spelt;
    config = refl;
    unprepared = refl;
    needs = λ x h. path_met x j (needs_at j.path e) h.0 (end_met x j e stops h.1);
    refused = λ x h. tt;
    within = λ x config named h. end_within x j.request j.target j.path e law named (sym config) job.asked job.loader stops within h.1;
  };
  failure = is_failure j.target j.path e;
  load = λ own.
      subst (λ (v : verdict.Verdict). Rests told (grounded_answer (load_alone j.request) v (basis_at j.request j.target j.path e))) (own_verdict j.target j.path e own)
      (subst (λ (b : Based). Rests told (grounded_answer (load_alone j.request) (verdict_at {A = A} targets.Own j.path e) b)) (own_basis j.request j.target j.path e own)
      (rests (load_alone j.request) targets.Own (own_for j.request j.target j.path own job.for_request) tt));
  record_is = tt;
  facts = λ x h. h.0.facts;
}

-- ---- refused records

own_refused : {A : Type 0} (r : Request) (t : Target A) (p : Pathed) (n : NextRecord A) → IsOwnTarget t → refused_at {A = A} (load_alone r) targets.Own p n ≡ refused_at r t p n
own_refused r targets.Own p n own = refl
own_refused r (targets.Reference d) p n own = absurd own

next_record : {A : Type 0} (n : NextRecord A) → IsRecordIn (Some (next_need n))
next_record (nexts.Define x) = tt
next_record (nexts.Initiate h) = tt

equal_apart : {A : Type 0} (n : NextRecord A) (name : List ℕ) (a b : ℕ) → Equal name a b ≡ next_need n → ⊥
equal_apart (nexts.Define x) name a b e = absurd cc
equal_apart (nexts.Initiate h) name a b e = absurd cc

entry_within : {A : Type 0} (count : ℕ) (n : NextRecord A) (loader : ℕ) (name : List ℕ) (home : ℕ) → Entry loader name home ≡ next_need n → NextWithin count n → loader < count
entry_within count (nexts.Define x) loader name home e h = let same : loader ≡ x.draft.class.loader = cc in subst (λ (l : ℕ). l < count) (sym same) h
entry_within count (nexts.Initiate i) loader name home e h = let same : loader ≡ i.value.asked = cc in subst (λ (l : ℕ). l < count) (sym same) h

-- so the answer names loaders of the configuration alone
next_within : {A : Type 0} (told : Option Content) (count : ℕ) (r : Request) (t : Target A) (p : Pathed) (n : NextRecord A) (need : rust.Need) → loader_of r < count → need_of need ≡ next_need n → NextWithin count n
    → IsWithin count (grounded_answer r (verdicts.Linkage need) (refused_at r t p n))
next_within told count r t p n (needs.Entry loader name home) asked is within = record { loader = asked; answer = entry_within count n loader name home is within }
next_within told count r t p n (needs.Equal e) asked is within = absurd (equal_apart n e.name e.one e.other is)

-- a refused record is the end of a load
pub refusal_ends : {A : Type 0} (told : Option Content) (j : Job A) (n : NextRecord A) (need : rust.Need) → IsJob told j.path.config j → NextRests told j.path n → need_of need ≡ next_need n → NextWithin (length j.path.config.loaders) n
    → Ended told j (verdicts.Linkage need) (refused_at j.request j.target j.path n) (RefusedOn j n)
refusal_ends {A} told j n need job rests is within = record {
  stood = record {
    rests = rests j.request j.target need job.for_request job.spelt is;
    config = refl;
    unprepared = refl;
    needs = λ x h. path_met x j (next_needs n) h.before h.needs;
    refused = λ x h. h.refused;
    within = λ x config named h. subst (λ (k : Configured). IsWithin (length k.loaders) (grounded_answer j.request (verdicts.Linkage need) (refused_at j.request j.target j.path n))) (sym config) (next_within told (length j.path.config.loaders) j.request j.target j.path n need job.asked is within);
  };
  failure = tt;
  load = λ own.
      subst (λ (b : Based). Rests told (grounded_answer (load_alone j.request) (verdicts.Linkage need) b)) (own_refused j.request j.target j.path n own)
      (rests (load_alone j.request) targets.Own need (own_for j.request j.target j.path own job.for_request) tt is);
  record_is = next_record n;
  facts = λ x h. h.before.facts;
}
