-- An answer that fits and rests on the content may be posted.
use Rattle.std.proofs.Common.{◌≡◌, ◌<◌, ◌∙◌, inl, inr, ℕ, zero, suc, Bool, true, false, List, [], ◌∷◌, length, Option, Some, None, refl, sym, ap, subst, arith}
use Rattle.std.specs.Prelude.{nat_lt, slice_get, Contains, IsSome}
use Rattle.std.proofs.lemmas.Bool.Decides.{nat_tests}
use Rattle.cl_classfile.specs.Files.{Name}
use Rattle.cl_model.specs.declared.class.Class.{Class}
use Rattle.cl_model.specs.declared.request.Request.{Request}
use Rattle.cl_model.specs.declared.request.Request.TheVariants as requests
use Rattle.cl_model.specs.declared.settled.Settled.{Settled}
use Rattle.cl_model.specs.declared.verdict.Verdict as rust_verdict
use Rattle.cl_model.specs.declared.verdict.Verdict.TheVariants as verdicts
use Rattle.cl_model.specs.declared.answer.Answer as rust
use Rattle.cl_model.specs.declared.answer.Answer.TheVariants as answers
use Rattle.cl_model.specs.Content.{Content}
use Rattle.cl_model.specs.Classes.{class}
use Rattle.cl_model.specs.States.{State, start, IsClass, IsLinked, Answer, recorded_definer, settled_to}
use Rattle.cl_model.specs.Plans.{Load, Resolve, Link}
use Rattle.cl_model.specs.Machine.{Setting, Scheduled, AnswersPlan, IsSound, MaySay, MayAnswer}
use Rattle.cl_model.specs.Tables.{Bears, BearsAnswer, Records}
use Rattle.cl_model.specs.Views.{answer_of, answers_of, answer_at, request_of, verdict_of}
use Rattle.cl_model.proofs.Gone.{borne_said}
use Rattle.cl_model.proofs.Looks.{recorded_answers}
use Rattle.cl_model.proofs.Planned.{plan_exists}
use Rattle.cl_model.proofs.Reached.{reference_is_plan}
use Rattle.cl_model.proofs.Sound.{runs_are_sound}
use Rattle.cl_model.proofs.Tables.{recorded_reached}
use Rattle.cl_config.specs.Loaders.{schedule}
use Rattle.cl_delegation.specs.Worlds.{setting_of}
use Rattle.cl_findings.specs.Findings.{Answered, IsLookedUp, Rests}
use Rattle.cl_findings.proofs.Answered.{standing_answers}
use Rattle.cl_registry.specs.Tables.{Shown, steps, state_of, records_of, round_of, IsTrusted}
use Rattle.cl_registry.specs.References.{settled_by}
use Rattle.cl_registry.specs.Posting.{AnswerBacked, VerdictBacked, AnswerFits}
use Rattle.cl_registry.specs.Allowed.{FittingIsAllowed}
use Rattle.cl_registry.proofs.Calm.{unposted_stays}
use Rattle.cl_registry.proofs.Cited.{settled_by_in, settled_cited_by}
use Rattle.cl_registry.proofs.Histories.{open_answer, unposted}
use Rattle.cl_registry.proofs.Linked.{prepared_comes}
use Rattle.cl_model.proofs.Bind.{value_same}

-- ---- rounds

abbrev pub scheduled : Request → ℕ → Scheduled
scheduled r n = record { request = request_of r; round = n }

pub scheduled_at : (rs : List Request) (ns : List ℕ) (q : ℕ) (r : Request) (n : ℕ) → slice_get rs q ≡ Some r → slice_get ns q ≡ Some n → slice_get (schedule rs ns) q ≡ Some (scheduled r n)
scheduled_at [] ns q r n e f = absurd cc
scheduled_at (s ∷ rs) [] q r n e f = absurd cc
scheduled_at (s ∷ rs) (m ∷ ns) zero r n e f = let a : s ≡ r = cc in let b : m ≡ n = cc in ap (λ (r : Request). Some (scheduled r m)) a ∙ ap (λ (n : ℕ). Some (scheduled r n)) b
scheduled_at (s ∷ rs) (m ∷ ns) (suc q) r n e f = scheduled_at rs ns q r n e f

-- each request has its round
pub round_at : (rs : List Request) (ns : List ℕ) (q : ℕ) (r : Request) → length ns ≡ length rs → slice_get rs q ≡ Some r → (n : ℕ) × (slice_get ns q ≡ Some n)
round_at [] ns q r same e = absurd cc
round_at (s ∷ rs) [] q r same e = absurd (let l : length (s ∷ rs) ≡ 0 = sym same in omega arith)
round_at (s ∷ rs) (n ∷ ns) zero r same e = (n, refl)
round_at (s ∷ rs) (n ∷ ns) (suc q) r same e = round_at rs ns q r (omega arith) e

lacks : (o : Option Answer) → o ≡ None → IsSome o → ⊥
lacks None e h = absurd cc
lacks (Some a) e h = absurd cc

less_of : (a b : ℕ) → nat_lt a b ≡ true → a < b
less_of a b e = grind (arith, nat_tests)

neither : (a b : ℕ) → nat_lt a b ≡ false → nat_lt b a ≡ false → a ≡ b
neither a b e f = grind (arith, nat_tests)

same_or : (a b : ℕ) → (a < b → ⊥) → (b < a → ⊥) → a ≡ b
same_or a b below above = by_test (nat_lt a b) (nat_lt b a) refl refl
  where
    by_test : (t u : Bool) → nat_lt a b ≡ t → nat_lt b a ≡ u → a ≡ b
    by_test true u e f = absurd (below (less_of a b e))
    by_test false true e f = absurd (above (less_of b a f))
    by_test false false e f = neither a b e f

-- ---- answers

-- the verdict of a class that is loaded
load_said : (g : Setting) (s : State) (l : ℕ) (name : Name) (c : Class) → IsSound g s → Records s l name c → MaySay g s (Load l name) (IsClass c)
load_said g s l name c sound rec =
    let a : AnswersPlan g s (Load l name) (IsClass c) = subst (λ (n : Name). AnswersPlan g s (Load l name) (IsClass (class n c.loader))) (sym rec.0) (recorded_answers g s l c.loader name sound.closed rec.1) in
    record { answers = a; rests = tt }

-- that of a class that is linked
link_said : (g : Setting) (s : State) (l : ℕ) (name : Name) (c : Class) → IsSound g s → Records s l name c → Contains s.prepared c → MaySay g s (Link l name) (IsLinked c)
link_said g s l name c sound rec own =
    let same : class name c.loader ≡ c = ap (λ (n : Name). class n c.loader) (sym rec.0) in
    let here = prepared_comes g s l c.loader name sound rec.1 (subst (λ (d : Class). Contains s.prepared d) (sym same) own) in
    subst (λ (d : Class). MaySay g s (Link l name) (IsLinked d)) same here.may_say

-- one that is looked up
looked_up : (g : Setting) (s : State) (r : Request) (v : rust_verdict.Verdict) → IsSound g s → IsLookedUp r v → Bears s (request_of r) (verdict_of v) → MaySay g s (request_of r) (verdict_of v)
looked_up g s (requests.Load l name) (verdicts.Class c) sound is bears = load_said g s l name c sound (bears c refl)
looked_up g s (requests.Link l name) (verdicts.Linked c) sound is bears = let b = bears c refl in link_said g s l name c sound b.0 b.1
looked_up g s other another sound is bears = absurd is

-- ---- what is settled

-- what an entry is settled to the tables bear for a request that resolves it
settled_bears : (x : Shown) (r : Request) (s : Settled) → settled_by x r ≡ Some s → Bears (state_of x) (request_of r) (verdict_of s.verdict)
settled_bears x r s at =
    let e = settled_cited_by x r s at in
    let is = settled_by_in x r s at in
    subst (λ (q : Request). Bears (state_of x) (request_of q) (verdict_of s.verdict)) (sym e.request)
    (λ d rec.
    let same : s.class ≡ d = ap (λ (p : ℕ). class s.class.name p) (value_same s.class.loader d.loader (recorded_definer (records_of x) e.loader s.class.name) e.recorded rec.1) ∙ ap (λ (n : Name). class n d.loader) (sym rec.0) in
    inr (inr (subst (λ (c : Class). settled_to (state_of x).settled c s.index ≡ Some (verdict_of s.verdict)) same is.verdict)))

-- and it is what the machine answers
settled_said : (g : Setting) (x : Shown) (r : Request) (s : Settled) → IsSound g (state_of x) → settled_by x r ≡ Some s → MaySay g (state_of x) (request_of r) (verdict_of s.verdict)
settled_said g x r s sound at =
    let e = settled_cited_by x r s at in
    let is = settled_by_in x r s at in
    let plan = plan_exists g.world (Resolve e.loader s.class.name s.index) in
    let reached = recorded_reached g.world (state_of x) (Resolve e.loader s.class.name s.index) plan.0 s.class.loader sound.closed plan.1 e.recorded in
    let settled = sound.settled s.class s.index (verdict_of s.verdict) is.verdict in
    let answered : AnswersPlan g (state_of x) (request_of r) (verdict_of s.verdict) =
    subst (λ (q : Request). AnswersPlan g (state_of x) (request_of q) (verdict_of s.verdict)) (sym e.request)
    (reference_is_plan g (state_of x) e.loader s.class.name s.index plan.0 s.class (verdict_of s.verdict) plan.1 reached.0 reached.1 settled.answered) in
    borne_said g (state_of x) (request_of r) (verdict_of s.verdict) (settled_bears x r s at) answered

-- ---- what may be answered

-- a verdict that is backed and rests on the content told may be said
may_say : (x : Shown) (content : Content) (f : Answered) (v : rust_verdict.Verdict) → IsSound (setting_of x.config x.script content) (state_of x) → f.answer ≡ answers.Said v → VerdictBacked x f v → Rests (Some content) f
    → MaySay (setting_of x.config x.script content) (state_of x) (request_of f.request) (verdict_of v)
may_say x content f v sound said backed rests =
    let g = setting_of x.config x.script content in
    elim backed.grounded [
      | inl is ↦ looked_up g (state_of x) f.request v sound is backed.borne
      | inr stands ↦ borne_said g (state_of x) (request_of f.request) (verdict_of v) backed.borne (standing_answers content x.config x.script (state_of x) f v (record { rests = rests; sound = sound; stands = stands; said = said }))
    ]

may_answer : (x : Shown) (content : Content) (f : Answered) (a : rust.Answer) → IsSound (setting_of x.config x.script content) (state_of x) → f.answer ≡ a → AnswerBacked x f a → Rests (Some content) f
    → MayAnswer (setting_of x.config x.script content) (state_of x) (request_of f.request) (answer_of a)
may_answer x content f (answers.Said v) sound is backed rests = may_say x content f v sound is backed rests
may_answer x content f (answers.Shared s) sound is backed rests = settled_said (setting_of x.config x.script content) x f.request s.value sound backed
may_answer x content f answers.Memory sound is backed rests = tt
may_answer x content f (answers.SourceFault n l) sound is backed rests = tt

-- ---- what the tables bear, under any source

pub borne : (x : Shown) (f : Answered) (a : rust.Answer) → AnswerBacked x f a → BearsAnswer (state_of x) (request_of f.request) (answer_of a)
borne x f (answers.Said v) backed = backed.borne
borne x f (answers.Shared s) backed = settled_bears x f.request s.value backed
borne x f answers.Memory backed = tt
borne x f (answers.SourceFault n l) backed = tt

-- ---- a post

-- a request that fits is of the round that is served
pub in_its_round : (x : Shown) (q : ℕ) (f : Answered) → IsTrusted x → AnswerFits x q f → (n : ℕ) × (slice_get x.script.rounds_of q ≡ Some n) × (n ≡ round_of x)
in_its_round x q f trusted fits =
    let n = round_at x.script.requests x.script.rounds_of q f.request trusted.script.each fits.may.asked in
    let none = open_answer x.answers q fits.may.unanswered in (
      n.0,
      n.1,
      same_or n.0 (round_of x) (λ before. lacks (answer_at (answers_of x.answers) q) none (trusted.earlier q n.0 n.1 before)) (λ later. fits.may.begun (record { round = n.0; of = n.1; later = later })),
    )

pub fitting_is_allowed : FittingIsAllowed
fitting_is_allowed content x q f kept fits rests =
    let n = in_its_round x q f kept.trusted fits in
    record {
      scheduled = scheduled f.request n.0;
      asked = scheduled_at x.script.requests x.script.rounds_of q f.request n.0 fits.may.asked n.1;
      in_round = n.2;
      unposted = unposted_stays (answers_of x.answers) x.history start q (unposted x q kept.trusted fits.may.unanswered);
      fits = may_answer x content f f.answer (runs_are_sound (setting_of x.config x.script content) (steps x) kept.run) refl fits.backed.answer rests;
    }
