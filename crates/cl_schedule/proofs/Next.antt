-- What a turn asks for is what comes next in the service of its request (JVMS SE 8, 5.3 to 5.4.3).
use Rattle.std.proofs.Common.{◌≡◌, ◌∙◌, ℕ, Bool, false, List, Option, Some, refl, sym, ap, subst, arith}
use Rattle.std.specs.Prelude.{nat_eq, if◌then◌else◌, slice_get, option_map, IfSome}
use Rattle.std.proofs.lemmas.Bool.Decides.{nat_tests}
use Rattle.std.proofs.lemmas.Cmp.{nat_eq_equiv}
use Rattle.cl_model.specs.declared.class.Class.{Class}
use Rattle.cl_model.specs.declared.need.Equality.{Equality}
use Rattle.cl_model.specs.declared.request.Request.{Request}
use Rattle.cl_model.specs.declared.request.Request.TheVariants as requests
use Rattle.cl_model.specs.declared.settled.Settled.{Settled}
use Rattle.cl_model.specs.declared.verdict.Verdict as verdicts
use Rattle.cl_model.specs.declared.answer.Answer as answers
use Rattle.cl_model.specs.Classes.{class}
use Rattle.cl_model.specs.States.{State, Entry}
use Rattle.cl_model.specs.Machine.{Setting, Step, Define, Initiate, Settle, Post, NextRound, Stray, May, after, step_for}
use Rattle.cl_model.specs.Service.{IsNextStep}
use Rattle.cl_model.specs.Tables.{Records}
use Rattle.cl_model.specs.Views.{request_of, verdict_of}
use Rattle.cl_model.specs.Steps.{IsOfService}
use Rattle.cl_delegation.specs.Searches.{Located}
use Rattle.cl_findings.specs.Findings.{Answered, loader_of, name_of}
use Rattle.cl_findings.specs.References.{resolved_index}
use Rattle.cl_hierarchy.specs.Imposed.{Sprung, OfReference, OfPreparation, equal_need}
use Rattle.cl_registry.specs.References.{Cited, cited_by}
use Rattle.cl_registry.specs.Settling.{IsToSettle}
use Rattle.cl_registry.specs.Tables.{Shown, state_of}
use Rattle.cl_tasks.specs.Turns.{KeepsRequest}
use Rattle.cl_tasks.specs.Follows.{Follows, IsPreparedNext, IsSettledNext, IsWanted}
use Rattle.cl_tasks.specs.Tasks.{Tasked}
use Rattle.cl_tasks.specs.declared.turn.Turn.{Turn}
use Rattle.cl_tasks.specs.declared.turn.Turn.TheVariants as turn
use Rattle.cl_schedule.specs.Serving.{IsPost}
use Rattle.cl_schedule.specs.Replies.{IsStepOf, PreparesBy}
use Rattle.cl_model.proofs.Bind.{some_same}

-- ---- the steps of calls

pub step_quiet : (e : Step) → IsOfService e → IsPost e → ⊥
step_quiet (Post q a) call post = call
step_quiet NextRound call post = call
step_quiet Stray call post = call
step_quiet other call post = post

-- the step of a call leaves the round and the answers
pub step_within : (s : State) (e : Step) → IsOfService e → ((after s e).round ≡ s.round) × ((after s e).answers ≡ s.answers)
step_within s (Post q a) call = absurd call
step_within s NextRound call = absurd call
step_within s Stray call = absurd call
step_within s other call = (refl, refl)

prepares_call : (o : Sprung) (e : Step) → PreparesBy o e → IsOfService e
prepares_call (OfReference d c index) e is = absurd is
prepares_call (OfPreparation l) e is = subst IsOfService (sym is) tt

pub step_of_call : {A : Type 0} (x : Shown) (u : Turn A) (e : Step) → IsStepOf x u e → IsOfService e
step_of_call x (turn.Define d) e is = subst IsOfService (sym is) tt
step_of_call x (turn.Initiate h) e is = subst IsOfService (sym is) tt
step_of_call x (turn.Settle f) e is = subst IsOfService (sym is.2) tt
step_of_call x (turn.Impose l k) e is = subst IsOfService (sym is.2) tt
step_of_call x (turn.Mark l) e is = prepares_call l.value.origin e is
step_of_call x other e is = absurd is

-- ---- what comes next

define_for : (c : Class) → step_for (Entry c.loader c.name c.loader) ≡ Define c
define_for c = rw (nat_eq_equiv.refl c.loader) refl

initiate_for : (h : Located) → (h.asked ≡ h.definer → ⊥) → step_for (Entry h.asked h.name h.definer) ≡ Initiate h.name h.definer h.asked
initiate_for h other = by_test (nat_eq h.asked h.definer) (differ h.asked h.definer other)
  where
    differ : (a b : ℕ) → (a ≡ b → ⊥) → nat_eq a b ≡ false
    differ a b ne = grind (arith, nat_tests)

    by_test : (b : Bool) → b ≡ false → (if b then Define (class h.name h.definer) else Initiate h.name h.definer h.asked) ≡ Initiate h.name h.definer h.asked
    by_test b e = rw e refl

-- the entry that a request resolves is of the class that its loader has recorded
cited_is : (x : Shown) (r : Request) (d : Class) (e : Cited) → Records (state_of x) (loader_of r) (name_of r) d → cited_by x r ≡ Some e → (d ≡ e.class) × (resolved_index r ≡ e.index)
cited_is x (requests.Load loader name) d e kept cited = absurd cc
cited_is x (requests.Link loader name) d e kept cited = absurd cc
cited_is x (requests.Resolve loader name i) d e kept cited =
    let here : Some (record { class = class name d.loader; index = i }) ≡ Some e = sym (ap (option_map (λ place. record { class = class name place; index = i })) kept.1) ∙ cited in
    let same : record { class = class name d.loader; index = i } ≡ e = some_same (record { class = class name d.loader; index = i }) e here in
    (ap (λ (k : List ℕ). class k d.loader) kept.0 ∙ ap (λ (k : Cited). k.class) same, ap (λ (k : Cited). k.index) same)

settle_next : (g : Setting) (x : Shown) (r : Request) (f : Answered) (e : Step) (s : Settled) → IsSettledNext g (state_of x) r f → f.request ≡ r → IsToSettle x f s → e ≡ Settle s.class s.index (verdict_of s.verdict) → May g (state_of x) e → IsNextStep g (state_of x) (request_of r) e
settle_next g x r f e s n same to is may =
    let at = cited_is x r n.class (record { class = s.class; index = s.index }) n.kept (ap (cited_by x) (sym same) ∙ to.cited) in
    let verdict : n.verdict ≡ s.verdict = said_is n.verdict s.verdict (sym n.said ∙ to.says.said) in
    let here : Settle n.class (resolved_index r) (verdict_of n.verdict) ≡ e = step_is n.class s.class (resolved_index r) s.index n.verdict s.verdict at.0 at.1 verdict ∙ sym is in
    let unsettled = (subst (May g (state_of x)) (sym here) may).may_keep.unsettled in
    subst (IsNextStep g (state_of x) (request_of r)) here (n.step unsettled)
  where
    said_is : (v u : verdicts.Verdict) → answers.TheVariants.Said v ≡ answers.TheVariants.Said u → v ≡ u
    said_is v u e = cc

    step_is : (c d : Class) (i j : ℕ) (v u : verdicts.Verdict) → c ≡ d → i ≡ j → v ≡ u → Settle c i (verdict_of v) ≡ Settle d j (verdict_of u)
    step_is c d i j v u p q w = rw (p, q, w) refl

impose_next : (g : Setting) (s : State) (r : Request) (o : Option Equality) (e : Step) (n : Equality) → IfSome o (λ k. IsWanted g s r (equal_need k)) → o ≡ Some n → e ≡ step_for (equal_need n) → May g s e → IsNextStep g s (request_of r) e
impose_next g s r o e n wanted at is may =
    let w : IsWanted g s r (equal_need n) = subst (λ (k : Option Equality). IfSome k (λ j. IsWanted g s r (equal_need j))) at wanted in
    subst (IsNextStep g s (request_of r)) (sym is) (w.step (subst (May g s) is may).may_add)

prepare_next : (g : Setting) (s : State) (r : Request) (o : Sprung) (e : Step) → IsPreparedNext g s r o → PreparesBy o e → May g s e → IsNextStep g s (request_of r) e
prepare_next g s r (OfReference d c index) e next is may = absurd is
prepare_next g s r (OfPreparation l) e next is may = subst (IsNextStep g s (request_of r)) (sym is) (next (subst (May g s) is may).unprepared)

-- what a turn asks for comes next, wherever it may happen
pub next_of : {A : Type 0} (g : Setting) (x : Shown) (r : Request) (t new : Tasked) (u : Turn A) (e : Step) → Follows g (state_of x) r u → KeepsRequest t new u → t.request ≡ Some r → IsStepOf x u e → May g (state_of x) e → IsNextStep g (state_of x) (request_of r) e
next_of g x r t new (turn.Define d) e follows serves request is may =
    let here : step_for (Entry d.class.loader d.class.name d.class.loader) ≡ e = define_for d.class ∙ sym is in
    subst (IsNextStep g (state_of x) (request_of r)) here (follows.step (subst (May g (state_of x)) is may).may_add)
next_of g x r t new (turn.Initiate h) e follows serves request is may =
    let here : step_for (Entry h.value.asked h.value.name h.value.definer) ≡ e = initiate_for h.value follows.1 ∙ sym is in
    subst (IsNextStep g (state_of x) (request_of r)) here (follows.0.step (subst (May g (state_of x)) is may).may_add)
next_of g x r t new (turn.Settle f) e follows serves request is may =
    settle_next g x r f e is.0 follows (some_same f.request r (sym serves.0 ∙ request)) is.1 is.2 may
next_of g x r t new (turn.Impose l k) e follows serves request is may = impose_next g (state_of x) r (slice_get l.value.needs k) e is.0 follows is.1 is.2 may
next_of g x r t new (turn.Mark l) e follows serves request is may = prepare_next g (state_of x) r l.value.origin e follows is may
next_of g x r t new other e follows serves request is may = absurd is
