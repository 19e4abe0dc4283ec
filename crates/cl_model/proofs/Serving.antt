-- What the examples of services rest on.
use Rattle.std.proofs.Common.{◌≡◌, ℕ, [], ◌∷◌, true, false, Bool, inl, inr, refl, sym, subst}
use Rattle.std.specs.Prelude.{◌==◌, if◌then◌else◌}
use Rattle.cl_classfile.specs.Files.{Name}
use Rattle.cl_model.specs.declared.class.Class.{Class}
use Rattle.cl_model.specs.Classes.{class}
use Rattle.cl_model.specs.States.{State, Need, Entry, Equal, BadEntry, IsClass, Linkage, Said, start, Answer}
use Rattle.cl_model.specs.Plans.{Request, Load, Resolve, Link, Plan, plan, plan_needs}
use Rattle.cl_model.specs.Machine.{Setting, Step, Define, Initiate, Answers, state_after, Post}
use Rattle.cl_model.specs.Steps.{IsOfService}
use Rattle.cl_model.specs.Service.{Want, ToStand, ToPrepare, serving_step, SettlesByStep, IsNextStep, MayEnd}
use Rattle.cl_model.specs.Examples.{boot, the_root, load_of}
use Rattle.cl_model.specs.ExampleReferences.{service}
use Rattle.cl_model.specs.ExampleRuns.{over}
use Rattle.cl_model.proofs.Planned.{one_plan}
use Rattle.cl_model.proofs.Refusals.{the}

-- a post's number
pub post_number : {p q : ℕ} {a b : Answer} → Post p a ≡ Post q b → p ≡ q
post_number e = cc

-- ---- what comes next in a service is neither a post nor a round

one_of_two : (b : Bool) (c : Class) (name : Name) (place loader : ℕ) → IsOfService (if b then Define c else Initiate name place loader)
one_of_two true c name place loader = tt
one_of_two false c name place loader = tt

serving_is : (x : Want) → IsOfService (serving_step x)
serving_is (ToStand (Entry loader name place)) = one_of_two (loader == place) (class name place) name place loader
serving_is (ToStand (Equal name one other)) = tt
serving_is (ToPrepare c) = tt

settles : (g : Setting) (s : State) (r : Request) (p : Plan) (e : Step) → SettlesByStep g s r p e → IsOfService e
settles g s (Load loader name) p e h = absurd h
settles g s (Resolve loader name i) p e h = subst (λ (d : Step). IsOfService d) (sym h.2.2) tt
settles g s (Link loader name) p e h = absurd h

pub of_service : (g : Setting) (s : State) (r : Request) (e : Step) → IsNextStep g s r e → IsOfService e
of_service g s r e h = elim h.next [
  | inl a ↦ subst (λ (d : Step). IsOfService d) (sym a.3) (serving_is a.0)
  | inr b ↦ settles g s r h.plan e b
]

-- ---- the root class, once it is recorded

abbrev plan_of_root : Plan
plan_of_root = the (plan service 3 (load_of boot "java/lang/Object"))

not_class : {c : Class} → BadEntry ≡ IsClass c → ⊥
not_class e = absurd cc

not_refused : {n : Need} → BadEntry ≡ Linkage n → ⊥
not_refused e = absurd cc

not_said : Answers (state_after start (Define the_root ∷ [])) (plan_needs plan_of_root) plan_of_root.ends BadEntry → ⊥
not_said (inl (m, e)) = not_class e
not_said (inr (r, e)) = not_refused e

-- its load does not end with BadEntry
pub root_not_bad : MayEnd (over service) (state_after start (Define the_root ∷ [])) (load_of boot "java/lang/Object") (Said BadEntry) → ⊥
root_not_bad h =
    not_said
    (subst (λ (p : Plan). Answers (state_after start (Define the_root ∷ [])) (plan_needs p) p.ends BadEntry)
    (one_plan service (load_of boot "java/lang/Object") h.may_say.answers.plan plan_of_root h.may_say.answers.planned (record { height = 3; planned = refl })) h.may_say.answers.answered)
