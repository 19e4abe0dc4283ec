-- Once the class of a request is loaded, its answer is that of the reference.
use Rattle.std.proofs.Common.{◌≡◌, inl, inr, ℕ, Bool, true, false, if◌then◌else◌, List, [], ◌∷◌, ◌++◌, Option, Some, None, Result, Ok, Err, refl, sym, ap, subst, ◌∙◌, slice_get}
use Rattle.std.specs.Prelude.{option_map}
pub use Rattle.cl_descriptors.proofs.Codec.{map_some, then_some}
use Rattle.cl_classfile.specs.Files.{Name, File, same_name, FileFault}
use Rattle.cl_model.specs.Content.{content_at}
use Rattle.cl_model.specs.Homes.{World, home}
use Rattle.cl_model.specs.declared.class.Class.{Class}
use Rattle.cl_model.specs.Classes.{class, Error, ClassNotFound, NoClassDef, file_if_named, is_own, bytes_of, read_found, HasFile}
use Rattle.cl_model.specs.Lineages.{Kin}
use Rattle.cl_model.specs.States.{State, Need, Verdict, Wrong, Said, answer_to, AllMet}
use Rattle.cl_model.specs.Works.{Made}
use Rattle.cl_model.specs.Plans.{derive, load, Request, Resolve, loaded_by, go_on_with, Plan, ending_verdict, plan_after, plan_from, plan, plan_needs}
use Rattle.cl_model.specs.Machine.{Setting, HasLineage, IsPlan, Answers, AnswersPlan, AnswersReference, IsSound, Scheduled}
use Rattle.cl_model.proofs.Bind.{some_same}
use Rattle.cl_model.proofs.Derived.{load_ok}
use Rattle.cl_model.proofs.Runs.{names_equal}
use Rattle.cl_model.proofs.Ending.{if_some}
use Rattle.cl_model.proofs.Planned.{one_plan, one_resolution}
use Rattle.cl_model.proofs.Sound.{one_plan_answer}
use Rattle.cl_model.proofs.Trees.{derive_gives}

-- a plan that reaches a class
pub record IsReached (w : World) (n : ℕ) (q : Request) (p : Plan) (d : Class) : Type 0 where
  pub kin : Kin
  pub lineage : HasLineage w d kin
  pub loading : Made Kin
  pub loaded : load w n ClassNotFound (loaded_by q).loader (loaded_by q).name ≡ Some loading
  pub ends : loading.ends ≡ Ok kin
  pub rest : Made Verdict
  pub goes_on : go_on_with w n q kin ≡ Some rest
  pub is : p ≡ plan_after loading kin rest
  pub class_is : kin.class ≡ d

none_reached : {d : Class} → None ≡ Some d → ⊥
none_reached h = cc

pub reached : (w : World) (n : ℕ) (q : Request) (p : Plan) (d : Class) → plan w n q ≡ Some p → p.reached ≡ Some d → IsReached w n q p d
reached w n q p d h r =
    let l = then_some (plan_from w n q) (load w n ClassNotFound (loaded_by q).loader (loaded_by q).name) p h in
    at l.0 l.1 l.0.ends refl l.2
  where
    at : (m : Made Kin) → load w n ClassNotFound (loaded_by q).loader (loaded_by q).name ≡ Some m → (e : Result Kin Error) → m.ends ≡ e → (elim e as (λ x. Option Plan) [
      | Err x ↦ Some (record { own = m.needs; more = []; asked = m.asked; reached = None; ends = Wrong x })
      | Ok k ↦ option_map (plan_after m k) (go_on_with w n q k)
    ]) ≡ Some p → IsReached w n q p d
    at m l (Err x) e k = absurd (none_reached (ap (λ (z : Plan). z.reached) (some_same _ _ k) ∙ r))
    at m l (Ok k) e z =
        let on = map_some (plan_after m k) (go_on_with w n q k) p z in
        let same : k.class ≡ d = some_same k.class d (ap (λ (x : Plan). x.reached) on.2 ∙ r) in
        let i = load_ok w (derive w n []) ClassNotFound (loaded_by q).loader (loaded_by q).name m k l e in
        let c = derive_gives w n [] (class (loaded_by q).name i.place) i.below k i.made i.ends in
        let below : derive w n [] d ≡ Some i.below = subst (λ (x : Class). derive w n [] x ≡ Some i.below) (sym c.0 ∙ same) i.made in
        record {
          kin = k;
          lineage = record { height = n; made = i.below; derived = below; ends = i.ends };
          loading = m;
          loaded = l;
          ends = e;
          rest = on.0;
          goes_on = on.1;
          is = sym on.2;
          class_is = same;
        }

-- where the first part of the needs is met, the answer is that of the second
pub answers_after : (s : State) (own more : List Need) (ends v : Verdict) → AllMet s own → Answers s (own ++ more) ends v → Answers s more ends v
answers_after s [] more ends v m h = h
answers_after s (n ∷ own) more ends v m (inl h) = answers_after s own more ends v m.1 h.1
answers_after s (n ∷ own) more ends v m (inr h) = absurd (h.0.unmet m.0)

pub reference_answered : (g : Setting) (s : State) (loader : ℕ) (name : Name) (i : ℕ) (p : Plan) (d : Class) (v : Verdict) → IsPlan g.world (Resolve loader name i) p → p.reached ≡ Some d → AllMet s p.own → Answers s (plan_needs p) p.ends v → AnswersReference g s d i v
reference_answered g s loader name i p d v is r met h =
    let x = reached g.world is.height (Resolve loader name i) p d is.planned r in
    let after = answers_after s p.own p.more p.ends v met h in
    record {
      made = x.rest;
      resolved = record { kin = x.kin; above = x.lineage; height = is.height; made = x.goes_on };
      answered = subst (λ (y : Plan). Answers s y.more y.ends v) x.is after;
    }

-- where the first part of the needs is met, the answer of the second is that of both
pub answers_before : (s : State) (own more : List Need) (ends v : Verdict) → AllMet s own → Answers s more ends v → Answers s (own ++ more) ends v
answers_before s [] more ends v m h = h
answers_before s (n ∷ own) more ends v m h = inl (m.0, answers_before s own more ends v m.1 h)

pub reference_is_plan : (g : Setting) (s : State) (loader : ℕ) (name : Name) (i : ℕ) (p : Plan) (d : Class) (v : Verdict) → IsPlan g.world (Resolve loader name i) p → p.reached ≡ Some d → AllMet s p.own → AnswersReference g s d i v → AnswersPlan g s (Resolve loader name i) v
reference_is_plan g s loader name i p d v is r met a =
    let x = reached g.world is.height (Resolve loader name i) p d is.planned r in
    let same : a.made ≡ x.rest = one_resolution g.world d i a.made x.rest a.resolved (record { kin = x.kin; above = x.lineage; height = is.height; made = x.goes_on }) in
    let more : Answers s x.rest.needs (ending_verdict x.rest.ends) v = subst (λ (m : Made Verdict). Answers s m.needs (ending_verdict m.ends) v) same a.answered in
    record { plan = p; planned = is; answered = answers_before s p.own p.more p.ends v met (subst (λ (y : Plan). Answers s y.more y.ends v) (sym x.is) more) }

pub plan_is_reference : (g : Setting) (s : State) (loader : ℕ) (name : Name) (i : ℕ) (p : Plan) (d : Class) (v : Verdict) → IsPlan g.world (Resolve loader name i) p → p.reached ≡ Some d → AllMet s p.own → AnswersPlan g s (Resolve loader name i) v → AnswersReference g s d i v
plan_is_reference g s loader name i p d v is r met a =
    let same : a.plan ≡ p = one_plan g.world (Resolve loader name i) a.plan p a.planned is in
    reference_answered g s loader name i p d v is r met (subst (λ (y : Plan). Answers s (plan_needs y) y.ends v) same a.answered)

-- ---- equal requests and equal references are answered alike

pub said_alike : (g : Setting) (s : State) (p q : ℕ) (a b : Scheduled) (v u : Verdict) → IsSound g s → slice_get g.script p ≡ Some a → slice_get g.script q ≡ Some b → a.request ≡ b.request → answer_to s.answers p ≡ Some (Said v) → answer_to s.answers q ≡ Some (Said u) → v ≡ u
said_alike g s p q a b v u sound x y same h k =
    let c = sound.answered p (Said v) h in
    let d = sound.answered q (Said u) k in
    let one : c.scheduled ≡ a = some_same c.scheduled a (sym c.asked ∙ x) in
    let two : d.scheduled ≡ b = some_same d.scheduled b (sym d.asked ∙ y) in
    let equal : c.scheduled.request ≡ d.scheduled.request = ap (λ (z : Scheduled). z.request) one ∙ same ∙ ap (λ (z : Scheduled). z.request) (sym two) in
    one_plan_answer g s d.scheduled.request v u
    (subst (λ (r : Request). AnswersPlan g s r v) equal c.may_answer.answers) d.may_answer.answers

-- the answer of a request that got past the load of its class is that of the reference
pub said_reference : (g : Setting) (s : State) (q : ℕ) (a : Scheduled) (loader : ℕ) (name : Name) (i : ℕ) (p : Plan) (d : Class) (v : Verdict) → IsSound g s → slice_get g.script q ≡ Some a → a.request ≡ Resolve loader name i → IsPlan g.world (Resolve loader name i) p → p.reached ≡ Some d → AllMet s p.own → answer_to s.answers q ≡ Some (Said v) → AnswersReference g s d i v
said_reference g s q a loader name i p d v sound x is planned r met h =
    let c = sound.answered q (Said v) h in
    let one : c.scheduled ≡ a = some_same c.scheduled a (sym c.asked ∙ x) in
    let request : c.scheduled.request ≡ Resolve loader name i = ap (λ (z : Scheduled). z.request) one ∙ is in
    let a = c.may_answer.answers in
    let same : a.plan ≡ p = one_plan g.world (Resolve loader name i) a.plan p (subst (λ (y : Request). IsPlan g.world y a.plan) request a.planned) planned in
    reference_answered g s loader name i p d v planned r met (subst (λ (y : Plan). Answers s (plan_needs y) y.ends v) same a.answered)

-- ---- what has a file is spelled by its own bytes

if_ok : (b : Bool) (f x : File) (e : Error) → (if b then Ok f else Err e) ≡ Ok x → (b ≡ true) × (f ≡ x)
if_ok true f x e h = (refl, cc)
if_ok false f x e h = absurd cc

named_ok : (c : Class) (r : Result File FileFault) (f : File) → file_if_named c r ≡ Ok f → (r ≡ Ok f) × (f.name ≡ c.name)
named_ok c (Err fault) f h = absurd cc
named_ok c (Ok x) f h =
    let both = if_ok (same_name x.name c.name) x f (NoClassDef c) h in
    (ap (λ (y : File). Ok y) both.1, subst (λ (y : File). y.name ≡ c.name) both.1 (names_equal x.name c.name both.0))

pub file_is_read : (w : World) (c : Class) (f : File) → HasFile w c f → (bytes : List ℕ) × (content_at w.content c.loader c.name ≡ Some bytes) × (w.read bytes ≡ Ok f) × (f.name ≡ c.name)
file_is_read w c f h = at (bytes_of w c) refl h
  where
    at : (o : Option (List ℕ)) → bytes_of w c ≡ o → read_found w c o ≡ Ok f → (bytes : List ℕ) × (content_at w.content c.loader c.name ≡ Some bytes) × (w.read bytes ≡ Ok f) × (f.name ≡ c.name)
    at None e k = absurd cc
    at (Some bytes) e k =
        let n = named_ok c (w.read bytes) f k in
        (bytes, (if_some (is_own c.loader (home w c.loader c.name)) (content_at w.content c.loader c.name) bytes e).1, n.0, n.1)
