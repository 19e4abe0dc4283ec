use Rattle.std.proofs.Common.{◌≡◌, ℕ, [], ◌∷◌, ◌++◌, inl, inr, refl, sym, subst}
use Rattle.cl_model.specs.Plans.{Plan, plan}
use Rattle.cl_model.specs.States.{State, Answer, BadEntry, OutOfMemory, Said, start}
use Rattle.cl_model.specs.Machine.{Define, Post, state_after}
use Rattle.cl_model.specs.Service.{ToStand, to_stand, MayEnd}
use Rattle.cl_model.specs.Examples.{boot, plug, object, the_root, root_record, load_of, resolve_of}
use Rattle.cl_model.specs.ExampleReferences.{service}
use Rattle.cl_model.specs.ExampleRuns.{over, overridden_service, serving}
use Rattle.cl_model.proofs.Refusals.{the}
use Rattle.cl_model.proofs.Served.{free_entry}
use Rattle.cl_model.proofs.Serving.{of_service, root_not_bad, post_number}
use Rattle.cl_model.proofs.service_examples.pieces_of_services.Goals as goal

abbrev plan_of_use : Plan
plan_of_use = the (plan overridden_service 3 (resolve_of plug "p/Use" 1))

pub returns-clause-step : goal.returns-clause-step
returns-clause-step c =
    inl (record {
      plan = plan_of_use;
      wants = to_stand plan_of_use.own ++ to_stand plan_of_use.more;
      wanted = record { planned = record { height = 3; planned = refl }; past = to_stand plan_of_use.more; follows = refl; whole = refl };
      next = inl (ToStand (root_record boot), inl refl, free_entry start object boot boot refl refl, refl);
    })

pub returns-clause-post : goal.returns-clause-post
returns-clause-post c = inr (OutOfMemory, tt, refl)

pub returns-clause-other_number : goal.returns-clause-other_number
returns-clause-other_number c h = elim h [
  | inl next ↦ of_service serving start (resolve_of plug "p/Use" 1) (Post 1 OutOfMemory) next
  | inr ends ↦ absurd (let same : 1 ≡ 0 = post_number ends.2 in cc)
]

same_answer : {p q : ℕ} {a b : Answer} → Post p a ≡ Post q b → a ≡ b
same_answer e = cc

abbrev root_stands : State
root_stands = state_after start (Define the_root ∷ [])

pub returns-clause-other_verdict : goal.returns-clause-other_verdict
returns-clause-other_verdict c h = elim h [
  | inl next ↦ of_service (over service) root_stands (load_of boot "java/lang/Object") (Post 0 (Said BadEntry)) next
  | inr ends ↦ root_not_bad (subst (λ (a : Answer). MayEnd (over service) root_stands (load_of boot "java/lang/Object") a) (sym (same_answer ends.2)) ends.1)
]
