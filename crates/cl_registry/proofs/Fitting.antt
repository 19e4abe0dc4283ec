-- What the linkage machine may post of a finding that stands, is looked up, or refuses a link's equality with all lists before fits;
-- nothing of another configuration is borne.
use Rattle.std.proofs.Common.{◌≡◌, ◌<◌, ◌∙◌, ◌⊎◌, inl, inr, ℕ, zero, suc, false, List, [], ◌∷◌, length, Option, Some, None, refl, sym, ap, subst, arith, is_some}
use Rattle.std.specs.Prelude.{slice_get}
use Rattle.std.specs.List.{AllByRecursion}
use Rattle.cl_model.specs.declared.need.Equality.{Equality}
use Rattle.cl_model.specs.declared.need.Need as rust_need
use Rattle.cl_model.specs.declared.need.Need.TheVariants as needs
use Rattle.cl_model.specs.declared.request.Request.{Request}
use Rattle.cl_model.specs.declared.request.Request.TheVariants as requests
use Rattle.cl_model.specs.declared.verdict.Verdict as rust_verdict
use Rattle.cl_model.specs.declared.verdict.Verdict.TheVariants as verdicts
use Rattle.cl_model.specs.declared.answer.Answer as rust
use Rattle.cl_model.specs.declared.answer.Answer.TheVariants as answers
use Rattle.cl_model.specs.Content.{Content}
use Rattle.cl_model.specs.Texts.{AnswerNames, NeedNames, VerdictNames}
use Rattle.cl_model.specs.States.{Answer}
use Rattle.cl_model.specs.Machine.{AnswersPlan, Scheduled, MayPost, MaySay, MayAnswer}
use Rattle.cl_model.specs.Tables.{Bears}
use Rattle.cl_model.specs.Views.{answer_of, answers_of, answer_at, need_of, request_of, verdict_of}
use Rattle.cl_model.proofs.Bind.{some_same}
use Rattle.cl_model.proofs.Closed.{all_right, runs_are_closed}
use Rattle.cl_model.proofs.Tables.{may_bear}
use Rattle.cl_config.specs.Loaders.{schedule_of}
use Rattle.cl_config.specs.Views.{Configured}
use Rattle.cl_delegation.specs.Worlds.{setting_of}
use Rattle.cl_hierarchy.specs.Imposed.{AreLineages, IsListed, Listed, OfPreparation, equal_need, needs_of}
use Rattle.cl_hierarchy.specs.Lineages.{IsLined, IsWithinConfig, Lined, kin_of, rows_in}
use Rattle.cl_hierarchy.specs.Rows.{Rowed}
use Rattle.cl_findings.specs.Findings.{Answered, Based, BasisStands, IsBorne, IsLookedUp, IsWithin, Stands, loader_of}
use Rattle.cl_findings.specs.Laws.{IsListedRefusal}
use Rattle.cl_findings.specs.References.{imposed_basis}
use Rattle.cl_findings.proofs.Carried.{refusal_is_borne}
use Rattle.cl_findings.proofs.Links.{preparation_of}
use Rattle.cl_registry.specs.Tables.{Shown, steps, state_of, round_of, IsAsked, IsKept, IsLater, IsOpen, IsTrusted, NamesLoaders}
use Rattle.cl_registry.specs.Posting.{AnswerBacked, VerdictBacked}
use Rattle.cl_registry.specs.Allowed.{AllowedIsPosted}
use Rattle.cl_registry.specs.SettlingLaws.{OtherFindingIsUnbacked}
use Rattle.cl_registry.proofs.Equated.{Names, constraints, lined}
use Rattle.cl_registry.proofs.Named.{record_is_named}
use Rattle.cl_registry.proofs.Posted.{round_at, scheduled, scheduled_at}
use Rattle.cl_registry.proofs.Running.{answered}

-- ---- the request, its round, and that it has no answer

same_entry : (a b : Scheduled) (o : Option Scheduled) → o ≡ Some a → o ≡ Some b → a ≡ b
same_entry a b o e f = cc

-- what the machine has of a request of this round
entry_is : (x : Shown) (q n : ℕ) (f : Answered) (e : Scheduled) → IsAsked x q f → slice_get x.script.rounds_of q ≡ Some n → slice_get (schedule_of x.script) q ≡ Some e → e ≡ scheduled f.request n
entry_is x q n f e asked of at = same_entry e (scheduled f.request n) (slice_get (schedule_of x.script) q) at (scheduled_at x.script.requests x.script.rounds_of q f.request n asked of)

-- a request that may be posted is of no later round
not_later : (content : Content) (x : Shown) (q : ℕ) (f : Answered) (a : Answer) → IsAsked x q f → MayPost (setting_of x.config x.script content) (state_of x) q a → IsLater x q → ⊥
not_later content x q f a asked may later =
    let round : later.round ≡ round_of x = ap (λ (e : Scheduled). e.round) (sym (entry_is x q later.round f may.scheduled asked later.of may.asked)) ∙ may.in_round in
    let l = later.later in
    absurd (omega (arith, round, l))

-- a request without an answer is open
is_open : (xs : List (Option rust.Answer)) (rs : List Request) (q : ℕ) (r : Request) → length xs ≡ length rs → slice_get rs q ≡ Some r → is_some (answer_at (answers_of xs) q) ≡ false → slice_get xs q ≡ Some None
is_open xs [] q r same at none = absurd cc
is_open [] (s ∷ rs) q r same at none = absurd (let l : 0 ≡ length (s ∷ rs) = same in omega arith)
is_open (None ∷ xs) (s ∷ rs) zero r same at none = refl
is_open (Some a ∷ xs) (s ∷ rs) zero r same at none = absurd cc
is_open (x ∷ xs) (s ∷ rs) (suc q) r same at none = is_open xs rs q r (omega arith) at none

open_still : (content : Content) (x : Shown) (q : ℕ) (f : Answered) (a : Answer) → IsTrusted x → IsAsked x q f → MayPost (setting_of x.config x.script content) (state_of x) q a → IsOpen x q
open_still content x q f a trusted asked may = is_open x.answers x.script.requests q f.request trusted.whole asked (sym (answered x q trusted) ∙ ap is_some may.unposted)

-- ---- what the tables bear of it

-- the machine may say it of the request
may_be_said : (content : Content) (x : Shown) (q : ℕ) (f : Answered) (v : rust_verdict.Verdict) → IsKept (Some content) x → IsAsked x q f → f.answer ≡ answers.Said v
    → MayPost (setting_of x.config x.script content) (state_of x) q (answer_of f.answer) → MaySay (setting_of x.config x.script content) (state_of x) (request_of f.request) (verdict_of v)
may_be_said content x q f v kept asked is may =
    let g = setting_of x.config x.script content in
    let s = state_of x in
    let n = round_at x.script.requests x.script.rounds_of q f.request kept.trusted.script.each asked in
    let here : MayAnswer g s (request_of f.request) (answer_of f.answer) =
    subst (λ (e : Scheduled). MayAnswer g s e.request (answer_of f.answer)) (entry_is x q n.0 f may.scheduled asked n.1 may.asked) may.fits in
    subst (λ (a : rust.Answer). MayAnswer g s (request_of f.request) (answer_of a)) is here

-- ---- its loaders

abbrev AreNamed : Shown → Request → rust_verdict.Verdict → Type 0
AreNamed x r v = (loader_of r < length x.config.loaders) × VerdictNames (length x.config.loaders) v

-- what is looked up names loaders that there are
looked_up : (x : Shown) (r : Request) (v : rust_verdict.Verdict) → NamesLoaders x → IsLookedUp r v → Bears (state_of x) (request_of r) (verdict_of v) → AreNamed x r v
looked_up x (requests.Load l name) (verdicts.Class c) named is bears = record_is_named x l c.loader name named (bears c refl).1
looked_up x (requests.Load l name) (verdicts.Array d c) named is bears = absurd is
looked_up x (requests.Load l name) (verdicts.PrimitiveArray d b) named is bears = absurd is
looked_up x (requests.Load l name) (verdicts.Field c k) named is bears = absurd is
looked_up x (requests.Load l name) (verdicts.Method c k) named is bears = absurd is
looked_up x (requests.Load l name) (verdicts.Linked c) named is bears = absurd is
looked_up x (requests.Load l name) verdicts.BadEntry named is bears = absurd is
looked_up x (requests.Load l name) verdicts.ArrayMember named is bears = absurd is
looked_up x (requests.Load l name) (verdicts.Error k c) named is bears = absurd is
looked_up x (requests.Load l name) (verdicts.Linkage n) named is bears = absurd is
looked_up x (requests.Resolve l name i) v named is bears = absurd is
looked_up x (requests.Link l name) (verdicts.Linked c) named is bears = record_is_named x l c.loader name named (bears c refl).0.1
looked_up x (requests.Link l name) (verdicts.Class c) named is bears = absurd is
looked_up x (requests.Link l name) (verdicts.Array d c) named is bears = absurd is
looked_up x (requests.Link l name) (verdicts.PrimitiveArray d b) named is bears = absurd is
looked_up x (requests.Link l name) (verdicts.Field c k) named is bears = absurd is
looked_up x (requests.Link l name) (verdicts.Method c k) named is bears = absurd is
looked_up x (requests.Link l name) verdicts.BadEntry named is bears = absurd is
looked_up x (requests.Link l name) verdicts.ArrayMember named is bears = absurd is
looked_up x (requests.Link l name) (verdicts.Error k c) named is bears = absurd is
looked_up x (requests.Link l name) (verdicts.Linkage n) named is bears = absurd is

-- ---- a link's refusal with the lists of all classes before

-- the equalities of a preparation name loaders of the configuration
list_named : (content : Content) (x : Shown) (e : Listed) (at : Lined) → IsListed (Some content) e → e.origin ≡ OfPreparation at → at.config ≡ x.config → AllByRecursion (Names (λ l. l < length x.config.loaders)) (needs_of e.needs)
list_named content x e at listed from config =
    let P : ℕ → Type 0 = λ n. n < length x.config.loaders in
    let lin : IsLined (Some content) at = subst (AreLineages (Some content)) from listed.lineages in
    let within : AllByRecursion (λ (r : Rowed). P r.class.loader) (rows_in at) = subst (λ (c : Configured). AllByRecursion (IsWithinConfig c) (rows_in at)) config lin.within in
    subst (AllByRecursion (Names P)) (sym (preparation_of e.origin at (needs_of e.needs) from listed.are)) (constraints P (kin_of at) (lined P at within))

need_named : (count : ℕ) (es : List Equality) (k : ℕ) (n : rust_need.Need) → AllByRecursion (Names (λ l. l < count)) (needs_of es) → slice_get (needs_of es) k ≡ Some (need_of n) → NeedNames count n
need_named count [] k n all at = absurd cc
need_named count (e ∷ es) zero (needs.Entry loader name place) all at = absurd cc
need_named count (e ∷ es) zero (needs.Equal d) all at = subst (Names (λ l. l < count)) (some_same (equal_need e) (equal_need d) at) all.0
need_named count (e ∷ es) (suc k) n all at = need_named count es k n all.1 at

-- it stands where it is the request's answer
refusal_stands : (content : Content) (x : Shown) (f : Answered) (v : rust_verdict.Verdict) → IsKept (Some content) x → f.answer ≡ answers.Said v → IsListedRefusal content x.config f v
    → AnswersPlan (setting_of x.config x.script content) (state_of x) (request_of f.request) (verdict_of v) → Stands x.config (state_of x) f
refusal_stands content x f v kept is h answered =
    let count = length x.config.loaders in
    let own = h.lineage.own.class in
    let closed = runs_are_closed (setting_of x.config x.script content) (steps x) kept.run in
    let basis = refusal_is_borne content x.config x.script (state_of x) f v h closed answered in
    let borne : IsBorne x.config (state_of x) (imposed_basis f.request h.lineage h.earlier h.list h.index (Some (need_of h.need))) = subst (BasisStands x.config (state_of x)) h.basis basis in
    let listed : IsListed (Some content) h.list = (all_right (IsListed (Some content)) h.earlier (h.list ∷ []) h.listed).0 in
    let named : NeedNames count h.need = need_named count h.list.needs h.index h.need (list_named content x h.list h.linked.at listed h.linked.prepares (h.linked.config ∙ h.config)) h.there in
    record {
      within = record {
        loader = (record_is_named x (loader_of f.request) own.loader own.name kept.named borne.carried.0.0).0;
        answer = subst (AnswerNames count) (sym (is ∙ ap (λ (u : rust_verdict.Verdict). answers.Said u) h.refuses)) named;
      };
      basis = basis;
    }

within : (x : Shown) (f : Answered) (v : rust_verdict.Verdict) → NamesLoaders x → f.answer ≡ answers.Said v → IsLookedUp f.request v ⊎ Stands x.config (state_of x) f → Bears (state_of x) (request_of f.request) (verdict_of v)
    → IsWithin (length x.config.loaders) f
within x f v named is (inl looked) bears =
    let here = looked_up x f.request v named looked bears in
    record { loader = here.0; answer = subst (AnswerNames (length x.config.loaders)) (sym is) here.1 }
within x f v named is (inr stands) bears = stands.within

-- ---- the laws

pub allowed_is_posted : AllowedIsPosted
allowed_is_posted content x q f v kept asked is given may =
    let g = setting_of x.config x.script content in
    let say = may_be_said content x q f v kept asked is may in
    let bears = may_bear g (state_of x) (request_of f.request) (verdict_of v) (runs_are_closed g (steps x) kept.run) say in
    let grounded : IsLookedUp f.request v ⊎ Stands x.config (state_of x) f =
    elim given [
      | inl looked ↦ inl looked
      | inr (inl stands) ↦ inr stands
      | inr (inr refusal) ↦ inr (refusal_stands content x f v kept is refusal say.answers)
    ] in
    let backed : VerdictBacked x f v = record { grounded = grounded; borne = bears } in
    record {
      may = record {
        asked = asked;
        begun = not_later content x q f (answer_of f.answer) asked may;
        unanswered = open_still content x q f (answer_of f.answer) kept.trusted asked may;
      };
      backed = record { within = within x f v kept.named is grounded bears; answer = subst (AnswerBacked x f) (sym is) backed };
    }

pub other_finding_is_unbacked : OtherFindingIsUnbacked
other_finding_is_unbacked x f b v based other is apart backed =
    let here : VerdictBacked x f v = subst (AnswerBacked x f) is backed.answer in
    elim here.grounded [
      | inl looked ↦ apart looked
      | inr stands ↦ other (subst (λ (o : Option Based). BasisStands x.config (state_of x) o) based stands.basis).config
    ]
