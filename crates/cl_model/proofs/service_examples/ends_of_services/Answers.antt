use Rattle.std.proofs.Common.{◌≡◌, ℕ, ◌++◌, List, Some, inl, inr, refl, sym, subst, codes, [], ◌∷◌}
use Rattle.cl_model.specs.declared.class.Class.{Class}
use Rattle.cl_model.specs.Classes.{Error}
use Rattle.cl_model.specs.States.{State, Answer, Equal, Refused, IsLinked, BadEntry, Wrong, Said, SourceFault, start, settled_to}
use Rattle.cl_model.specs.Plans.{Plan, plan}
use Rattle.cl_model.specs.Machine.{Step, Define, MaySettle, Settle, Post, after, state_after}
use Rattle.cl_model.specs.Service.{Want, ToStand, to_stand, HasWants, IsNextStep, ComesTo, MayEnd}
use Rattle.cl_model.specs.Examples.{boot, app, plug, kid, object, the_root, in_plug, root_record, same_t, load_of, resolve_of, link_of}
use Rattle.cl_model.specs.ExampleReferences.{service}
use Rattle.cl_model.specs.ExampleRuns.{over, overridden_service, serving, both_stand, t_refused}
use Rattle.cl_model.proofs.Refusals.{the, refused_equal}
use Rattle.cl_model.proofs.Served.{free_entry, made_of_service, resolution_of_service}
use Rattle.cl_model.proofs.Serving.{root_not_bad}
use Rattle.cl_model.proofs.service_examples.ends_of_services.Goals as goal

abbrev plan_of_use : Plan
plan_of_use = the (plan overridden_service 3 (resolve_of plug "p/Use" 1))

first_step : IsNextStep serving start (resolve_of plug "p/Use" 1) (Define the_root)
first_step = record {
  plan = plan_of_use;
  wants = to_stand plan_of_use.own ++ to_stand plan_of_use.more;
  wanted = record { planned = record { height = 3; planned = refl }; past = to_stand plan_of_use.more; follows = refl; whole = refl };
  next = inl (ToStand (root_record boot), inl refl, free_entry start object boot boot refl refl, refl);
}

pub returns-clause-broken_off : goal.returns-clause-broken_off
returns-clause-broken_off c = record { steps = Define the_root ∷ []; begun = (first_step, tt); answer = SourceFault (codes "p/Svc") app; ends = tt; posted = refl }

-- ---- a refused equality

abbrev plan_of_service : Plan
plan_of_service = the (plan service 3 (resolve_of plug "p/Use" 1))

abbrev wants_of_service : List Want
wants_of_service = to_stand plan_of_service.own ++ to_stand plan_of_service.more

wanted_of_service : HasWants service (resolve_of plug "p/Use" 1) plan_of_service wants_of_service
wanted_of_service = record { planned = record { height = 3; planned = refl }; past = to_stand plan_of_service.more; follows = refl; whole = refl }

abbrev settled_so : State
settled_so = after both_stand (Settle (in_plug "p/Use") 1 t_refused)

not_equal : Refused both_stand (Equal (codes "p/T") app plug)
not_equal = refused_equal both_stand (codes "p/T") app plug app plug refl (λ e. absurd cc) refl refl (λ e. absurd cc)

still_not_equal : Refused settled_so (Equal (codes "p/T") app plug)
still_not_equal = refused_equal settled_so (codes "p/T") app plug app plug refl (λ e. absurd cc) refl refl (λ e. absurd cc)

may_settle : MaySettle (over service) both_stand (in_plug "p/Use") 1 t_refused
may_settle = record {
  may_keep = record { recorded = refl; unsettled = refl; settling = record { is_entry = λ e. absurd cc; is_class_member = λ e. absurd cc } };
  answered = record { made = made_of_service; resolved = resolution_of_service; answered = inl (refl, inl (refl, inl (refl, inl (refl, inr (not_equal, refl))))) };
}

settle_next : IsNextStep (over service) both_stand (resolve_of plug "p/Use" 1) (Settle (in_plug "p/Use") 1 t_refused)
settle_next = record {
  plan = plan_of_service;
  wants = wants_of_service;
  wanted = wanted_of_service;
  next = inr (in_plug "p/Use", (refl, (refl, (refl, (refl, tt)))), (t_refused, may_settle, refl));
}

same_class : {a b : Class} → Some a ≡ Some b → a ≡ b
same_class e = cc

settled : (d : Class) → Some (in_plug "p/Use") ≡ Some d → settled_to settled_so.settled d 1 ≡ Some t_refused
settled d e = subst (λ (c : Class). settled_to settled_so.settled c 1 ≡ Some t_refused) (same_class e) refl

ends_refused : ComesTo (over service) settled_so (resolve_of plug "p/Use" 1) t_refused
ends_refused = record {
  plan = plan_of_service;
  wants = wants_of_service;
  wanted = wanted_of_service;
  over = inr (same_t app plug, inr (refl, inr (refl, inr (refl, inr (refl, inr (refl, inr (refl, inr (refl, inl refl))))))), still_not_equal);
  may_say = record {
    answers = record {
      plan = plan_of_service;
      planned = record { height = 3; planned = refl };
      answered = inl (refl, inl (refl, inl (refl, inl (refl, inl (refl, inl (refl, inl (refl, inr (still_not_equal, refl))))))));
    };
    rests = λ d past a. settled d past.0;
  };
}

pub returns-clause-refused : goal.returns-clause-refused
returns-clause-refused c = record { steps = Settle (in_plug "p/Use") 1 t_refused ∷ []; begun = (settle_next, tt); answer = Said t_refused; ends = ends_refused; posted = refl }

-- ---- no class

abbrev plan_of_none : Plan
plan_of_none = the (plan service 3 (link_of kid "p/X"))

not_linked : {e : Error} {c : Class} → Wrong e ≡ IsLinked c → ⊥
not_linked e = absurd cc

not_found : ComesTo (over service) start (link_of kid "p/X") plan_of_none.ends
not_found = record {
  plan = plan_of_none;
  wants = [];
  wanted = record { planned = record { height = 3; planned = refl }; past = []; follows = refl; whole = refl };
  over = inl tt;
  may_say = record { answers = record { plan = plan_of_none; planned = record { height = 3; planned = refl }; answered = refl }; rests = λ c e. absurd (not_linked e) };
}

pub returns-clause-no_class : goal.returns-clause-no_class
returns-clause-no_class c = record { steps = []; begun = tt; answer = Said plan_of_none.ends; ends = not_found; posted = refl }

-- ---- another verdict

abbrev root_stands : State
root_stands = state_after start (Define the_root ∷ [])

same_answer : {p q : ℕ} {a b : Answer} {es : List Step} → Post p a ∷ [] ≡ Post q b ∷ es → a ≡ b
same_answer e = cc

longer : (d e f : Step) (ds : List Step) → d ∷ [] ≡ e ∷ (ds ++ f ∷ []) → ⊥
longer d e f [] same = absurd cc
longer d e f (x ∷ ds) same = absurd cc

pub returns-clause-other_verdict : goal.returns-clause-other_verdict
returns-clause-other_verdict c h = none h.steps (sym h.posted) h.ends
  where
    none : (steps : List Step) → steps ++ Post 0 h.answer ∷ [] ≡ Post 0 (Said BadEntry) ∷ [] → MayEnd (over service) (state_after root_stands steps) (load_of boot "java/lang/Object") h.answer → ⊥
    none [] e ends = root_not_bad (subst (λ (a : Answer). MayEnd (over service) root_stands (load_of boot "java/lang/Object") a) (sym (same_answer (sym e))) ends)
    none (d ∷ ds) e ends = longer (Post 0 (Said BadEntry)) d (Post 0 h.answer) ds (sym e)
