-- What stands in a sound state is its answer.
use Rattle.std.proofs.Common.{◌≡◌, ◌∙◌, ℕ, List, [], ◌∷◌, Option, Some, None, Result, refl, sym, ap, subst}
use Rattle.std.specs.Prelude.{Contains, IfSome}
use Rattle.std.specs.List.{AllByRecursion}
use Rattle.cl_model.specs.declared.class.Class.{Class}
use Rattle.cl_model.specs.declared.verdict.Verdict as verdict
use Rattle.cl_model.specs.declared.verdict.Verdict.TheVariants as verdicts
use Rattle.cl_model.specs.declared.answer.Answer as answer
use Rattle.cl_model.specs.declared.request.Request as request
use Rattle.cl_model.specs.declared.request.Request.TheVariants as requests
use Rattle.cl_model.specs.Content.{Content}
use Rattle.cl_model.specs.Classes.{Error, class}
use Rattle.cl_model.specs.Lineages.{Kin, classes}
use Rattle.cl_model.specs.States.{State, Need, Entry, Equal, Verdict, IsLinked, Linkage, recorded_definer, AllMet, IsRecorded, Refused}
use Rattle.cl_model.specs.Preparation.{constraints_of}
use Rattle.cl_model.specs.Plans.{Request, Resolve, Link, Plan, ending_verdict}
use Rattle.cl_model.specs.Machine.{Setting, IsSound, AnswersPlan, AnswersReference}
use Rattle.cl_model.specs.Service.{ComesTo, IsLinkedIn}
use Rattle.cl_model.specs.Frames.{EndsHere}
use Rattle.cl_model.specs.Views.{request_of, verdict_of}
use Rattle.cl_model.proofs.Bind.{step_is}
use Rattle.cl_model.proofs.Derivations.{all_map}
use Rattle.cl_model.proofs.Frames.{answers_here}
use Rattle.cl_model.proofs.Gone.{link_record_comes, link_refusal_comes, unreached_comes}
use Rattle.cl_model.proofs.Planned.{one_lineage, plan_exists}
use Rattle.cl_model.proofs.Progress.{IsKept, lineage_kept}
use Rattle.cl_model.proofs.Reached.{plan_is_reference, reached}
use Rattle.cl_model.proofs.Stacks.{refused_answers}
use Rattle.cl_model.proofs.Tables.{recorded_reached}
use Rattle.cl_model.proofs.Trees.{lineage_is_derived, lineage_of}
use Rattle.cl_model.proofs.Closed.{all_left}
use Rattle.cl_config.specs.Views.{Configured, Scripted}
use Rattle.cl_delegation.specs.Worlds.{setting_of, world_of}
use Rattle.cl_findings.specs.Findings.{Answered, AnswerRests, Based, BasisStands, Concludes, HasImposed, IsLink, IsLookedUp, IsRefusal, SaidRests, VerdictRests}
use Rattle.cl_findings.specs.Laws.{ArePreparedBefore, VerdictStands}

-- ---- what a verdict that stands concludes

-- what is known of a verdict that stands: it is none that is looked up, and its basis concludes it
record Concluded (g : Setting) (s : State) (r : request.Request) (v : verdict.Verdict) (o : Option Based) (b : Based) : Type 0 where
  pub apart : IsLookedUp r v → ⊥
  pub concludes : Concludes g.world s (request_of r) b.refused b.before (verdict_of v)
  pub before : ArePreparedBefore s o → AllByRecursion (Contains s.prepared) b.before
  pub refused : IfSome b.refused (Refused s)

concluded : (content : Content) (c : Configured) (script : Scripted) (s : State) (r : request.Request) (v : verdict.Verdict) (o : Option Based) → SaidRests content r v o → IsSound (setting_of c script content) s → BasisStands c s o
    → (b : Based) × Concluded (setting_of c script content) s r v o b
concluded content c script s r v None rests sound stands = absurd stands
concluded content c script s r v (Some b) rests sound borne =
    let w = world_of c content in
    let here : VerdictRests w r v b = subst (λ (k : Configured). VerdictRests (world_of k content) r v b) borne.config rests in
    let imposed = all_map (Contains s.prepared) (HasImposed w s) (λ d h. let p = sound.prepared d h in record { kin = p.kin; lineage = p.lineage; imposed = p.imposed }) b.prepared borne.carried.1 in (
      b,
      record {
        apart = here.apart;
        concludes = here.concludes s sound.closed (record { needs = borne.carried.0; prepared = imposed });
        before = λ h. h;
        refused = borne.carried.2;
      },
    )

-- of a finding
found : (content : Content) (c : Configured) (script : Scripted) (s : State) (f : Answered) (v : verdict.Verdict) → VerdictStands content c script s f v
    → (b : Based) × Concluded (setting_of c script content) s f.request v f.basis b
found content c script s f v h =
    concluded content c script s f.request v f.basis (subst (λ (a : answer.Answer). AnswerRests content f.request a f.basis) h.said h.rests) h.sound h.stands.basis

pub answered_by : (g : Setting) (s : State) (q : Request) (o : Option Need) (cs : List Class) (v : Verdict) → Concludes g.world s q o cs v → IfSome o (Refused s) → AnswersPlan g s q v
answered_by g s q None cs v h refused = answers_here g s q v h
answered_by g s q (Some n) cs v h refused = subst (λ (u : Verdict). AnswersPlan g s q u) (sym h.linkage) (refused_answers g s q n h.next refused)

pub standing_answers : (content : Content) (c : Configured) (script : Scripted) (s : State) (f : Answered) (v : verdict.Verdict) → VerdictStands content c script s f v
    → AnswersPlan (setting_of c script content) s (request_of f.request) (verdict_of v)
standing_answers content c script s f v h =
    let b = found content c script s f v h in
    answered_by (setting_of c script content) s (request_of f.request) b.0.refused b.0.before (verdict_of v) b.1.concludes b.1.refused

-- ---- references

pub standing_settles : (content : Content) (c : Configured) (script : Scripted) (s : State) (f : Answered) (v : verdict.Verdict) (loader place i : ℕ) (name : List ℕ) → VerdictStands content c script s f v
    → f.request ≡ requests.Resolve loader name i → recorded_definer s.records loader name ≡ Some place
    → AnswersReference (setting_of c script content) s (class name place) i (verdict_of v)
standing_settles content c script s f v loader place i name h asked rec =
    let g = setting_of c script content in
    let q = Resolve loader name i in
    let all : AnswersPlan g s q (verdict_of v) = subst (λ (r : request.Request). AnswersPlan g s (request_of r) (verdict_of v)) asked (standing_answers content c script s f v h) in
    let p = plan_exists g.world q in
    let at = recorded_reached g.world s q p.0 place h.sound.closed p.1 rec in
    plan_is_reference g s loader name i p.0 (class name place) (verdict_of v) p.1 at.0 at.1 all

-- ---- links

-- a verdict that reads as a linked class is one
linked_is_looked_up : (loader : ℕ) (name : List ℕ) (v : verdict.Verdict) (d : Class) → verdict_of v ≡ IsLinked d → IsLookedUp (requests.Link loader name) v
linked_is_looked_up loader name (verdicts.Linked c) d e = tt
linked_is_looked_up loader name other d e = absurd cc

end_comes : (g : Setting) (s : State) (loader : ℕ) (name : List ℕ) (v : Verdict) → ((d : Class) → v ≡ IsLinked d → ⊥) → EndsHere g.world s (Link loader name) v → ComesTo g s (Link loader name) v
end_comes g s loader name v unlinked here = at here.plan.reached refl
  where
    at : (o : Option Class) → here.plan.reached ≡ o → ComesTo g s (Link loader name) v
    at None e = unreached_comes g s (Link loader name) here.plan v here.planned e (answers_here g s (Link loader name) v here)
    at (Some d) e =
        let x = reached g.world here.planned.height (Link loader name) here.plan d here.planned.planned e in
        let rest = step_is _ x.rest x.goes_on in
        absurd (unlinked x.kin.class (sym here.ends ∙ ap (λ (y : Plan). y.ends) x.is ∙ ap (λ (r : Result Verdict Error). ending_verdict r) rest.1))

-- classes of a lineage that are prepared are linked
pub linked_all : (g : Setting) (s : State) (ks : List Kin) → IsSound g s → AllByRecursion (IsKept g.world s) ks → AllByRecursion (Contains s.prepared) (classes ks) → AllByRecursion (IsLinkedIn s) ks
linked_all g s [] sound kept h = tt
linked_all g s (k ∷ ks) sound kept h =
    let p = sound.prepared k.class h.0 in
    let same = one_lineage g.world k.class p.kin k p.lineage (lineage_is_derived g.world k kept.0.1) in
    (record { imposed = subst (λ (x : Kin). AllMet s (constraints_of x)) same p.imposed; prepared = h.0 }, linked_all g s ks sound kept.1 h.1)

refusal_comes : (g : Setting) (s : State) (loader : ℕ) (name : List ℕ) (n : Need) (cs : List Class) (v : Verdict) → IsSound g s → IsRefusal g.world s (Link loader name) n cs v → AllByRecursion (Contains s.prepared) cs → Refused s n
    → ComesTo g s (Link loader name) (Linkage n)
refusal_comes g s loader name (Entry to other place) cs v sound h prepared refused = link_record_comes g s loader to place name other h.next refused
refusal_comes g s loader name (Equal other a b) cs v sound h prepared refused =
    let at = h.placed in
    let w = g.world in
    let lin = lineage_of w (class name at.place) at.kin at.of in
    let own : IsRecorded s at.kin.class = subst (λ (c : Class). IsRecorded s c) (sym lin.0) (sound.closed.own loader at.place name at.kept) in
    let kept = subst (λ (ks : List Kin). AllByRecursion (IsKept w s) ks) at.split (lineage_kept w s at.kin sound.closed own lin.1) in
    let linked = linked_all g s at.before sound (all_left (IsKept w s) at.before (at.at ∷ at.behind) kept) (subst (λ (ds : List Class). AllByRecursion (Contains s.prepared) ds) (sym at.are) prepared) in
    link_refusal_comes g s loader at.place name at.kin at.at at.before at.behind (Equal other a b) sound.closed at.kept at.of at.split linked at.next refused

comes_by : (g : Setting) (s : State) (loader : ℕ) (name : List ℕ) (o : Option Need) (cs : List Class) (v : Verdict) → IsSound g s → ((d : Class) → v ≡ IsLinked d → ⊥) → Concludes g.world s (Link loader name) o cs v
    → AllByRecursion (Contains s.prepared) cs → IfSome o (Refused s) → ComesTo g s (Link loader name) v
comes_by g s loader name None cs v sound unlinked h prepared refused = end_comes g s loader name v unlinked h
comes_by g s loader name (Some n) cs v sound unlinked h prepared refused = subst (λ (u : Verdict). ComesTo g s (Link loader name) u) (sym h.linkage) (refusal_comes g s loader name n cs v sound h prepared refused)

link_comes_by : (g : Setting) (s : State) (r : request.Request) (v : verdict.Verdict) (o : Option Based) (b : Based) → IsSound g s → IsLink r → Concluded g s r v o b → ArePreparedBefore s o → ComesTo g s (request_of r) (verdict_of v)
link_comes_by g s (requests.Load loader name) v o b sound link h prepared = absurd link
link_comes_by g s (requests.Resolve loader name i) v o b sound link h prepared = absurd link
link_comes_by g s (requests.Link loader name) v o b sound link h prepared =
    comes_by g s loader name b.refused b.before (verdict_of v) sound (λ d e. h.apart (linked_is_looked_up loader name v d e)) h.concludes (h.before prepared) h.refused

pub standing_comes : (content : Content) (c : Configured) (script : Scripted) (s : State) (f : Answered) (v : verdict.Verdict) → VerdictStands content c script s f v
    → IsLink f.request → ArePreparedBefore s f.basis → ComesTo (setting_of c script content) s (request_of f.request) (verdict_of v)
standing_comes content c script s f v h link prepared =
    let b = found content c script s f v h in
    link_comes_by (setting_of c script content) s f.request v f.basis b.0 h.sound link b.1 prepared
