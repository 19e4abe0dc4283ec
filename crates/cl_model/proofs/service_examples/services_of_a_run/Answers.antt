use Rattle.std.proofs.Common.{◌≡◌, ◌<◌, ◌+◌, ◌++◌, List, true, false, inl, inr, refl, subst, codes, [], ◌∷◌, arith}
use Rattle.std.specs.Prelude.{Contains, flat_map}
use Rattle.cl_model.specs.declared.class.Class.{Class}
use Rattle.cl_model.specs.Lineages.{lineage}
use Rattle.cl_model.specs.Plans.{Plan, plan}
use Rattle.cl_model.specs.States.{State, Need, IsLinked, BadEntry, Said, MayAdd, start}
use Rattle.cl_model.specs.Machine.{MaySettle, MayGoOn, Define, Initiate, Constrain, Settle, Prepare, Post, NextRound, after, state_after, step_for}
use Rattle.cl_model.specs.Service.{Want, ToStand, ToPrepare, to_stand, to_link, HasWants, IsFirst, IsNextStep, IsBegun, ComesTo}
use Rattle.cl_model.specs.Examples.{boot, app, plug, object, the_root, in_app, in_plug, own, entry, root_record, same_t, resolve_of, link_of}
use Rattle.cl_model.specs.ExampleRuns.{overridden_service, serving, loading, resolving, linking, of_svc, unsettled, unprepared}
use Rattle.cl_model.proofs.Refusals.{the}
use Rattle.cl_model.proofs.Served.{free_entry, free_equal, kin_of_use, lineage_of_use, made_of_svc, resolution_of_svc, first_round, joined, settled, svc_unprepared, use_unprepared}
use Rattle.cl_model.proofs.service_examples.services_of_a_run.Goals as goal
use Rattle.cl_model.proofs.Tables.{one_linked}

-- ---- the first request

abbrev plan_of_use : Plan
plan_of_use = the (plan overridden_service 3 (resolve_of plug "p/Use" 1))

abbrev wants_of_use : List Want
wants_of_use = to_stand plan_of_use.own ++ to_stand plan_of_use.more

wanted_of_use : HasWants overridden_service (resolve_of plug "p/Use" 1) plan_of_use wants_of_use
wanted_of_use = record { planned = record { height = 3; planned = refl }; past = to_stand plan_of_use.more; follows = refl; whole = refl }

need_next : (s : State) (n : Need) → IsFirst s wants_of_use (ToStand n) → MayAdd s n → IsNextStep serving s (resolve_of plug "p/Use" 1) (step_for n)
need_next s n first may = record { plan = plan_of_use; wants = wants_of_use; wanted = wanted_of_use; next = inl (ToStand n, first, may, refl) }

may_settle : MaySettle serving unsettled (in_plug "p/Use") 1 of_svc
may_settle = record {
  may_keep = record { recorded = refl; unsettled = refl; settling = record { is_entry = λ e. absurd cc; is_class_member = λ e. absurd cc } };
  answered = record { made = made_of_svc; resolved = resolution_of_svc; answered = inl (refl, inl (refl, inl (refl, inl (refl, inl (joined, refl))))) };
}

settle_next : IsNextStep serving unsettled (resolve_of plug "p/Use" 1) (Settle (in_plug "p/Use") 1 of_svc)
settle_next = record {
  plan = plan_of_use;
  wants = wants_of_use;
  wanted = wanted_of_use;
  next = inr (in_plug "p/Use", (refl, (refl, (refl, (refl, (refl, (refl, tt)))))), (of_svc, may_settle, refl));
}

begun : IsBegun serving (resolve_of plug "p/Use" 1) start (loading ++ Constrain (codes "p/T") app plug ∷ Settle (in_plug "p/Use") 1 of_svc ∷ [])
begun = (
  need_next start (root_record boot) (inl refl) (free_entry start object boot boot refl refl),
  (
    need_next (state_after start (Define the_root ∷ [])) (root_record app) (inr (refl, inl refl)) (free_entry _ object app boot refl refl),
    (
      need_next (state_after start (Define the_root ∷ Initiate object boot app ∷ [])) (own app "p/Svc") (inr (refl, inr (refl, inl refl))) (free_entry _ (codes "p/Svc") app app refl refl),
      (
        need_next (state_after start (Define the_root ∷ Initiate object boot app ∷ Define (in_app "p/Svc") ∷ [])) (entry plug "p/Svc" app) (inr (refl, inr (refl, inr (refl, inl refl)))) (free_entry _ (codes "p/Svc") plug app refl refl),
        (
          need_next (state_after start (Define the_root ∷ Initiate object boot app ∷ Define (in_app "p/Svc") ∷ Initiate (codes "p/Svc") app plug ∷ [])) (own plug "p/Use") (inr (refl, inr (refl, inr (refl, inr (refl, inl refl))))) (free_entry _ (codes "p/Use") plug plug refl refl),
          (
            need_next (state_after start loading) (same_t app plug) (inr (refl, inr (refl, inr (refl, inr (refl, inr (refl, inr (refl, inr (refl, inr (refl, inr (refl, inl refl)))))))))) (free_equal _ (codes "p/T") app plug refl (λ e. absurd cc) refl),
            (settle_next, tt),
          ),
        ),
      ),
    ),
  ),
)

resolved : ComesTo serving (after unsettled (Settle (in_plug "p/Use") 1 of_svc)) (resolve_of plug "p/Use" 1) of_svc
resolved = record {
  plan = plan_of_use;
  wants = wants_of_use;
  wanted = wanted_of_use;
  over = inl (refl, (refl, (refl, (refl, (refl, (refl, (refl, (refl, (refl, (joined, tt))))))))));
  may_say = record {
    answers = record {
      plan = plan_of_use;
      planned = record { height = 3; planned = refl };
      answered = inl (refl, inl (refl, inl (refl, inl (refl, inl (refl, inl (refl, inl (refl, inl (refl, inl (refl, inl (joined, refl))))))))));
    };
    rests = λ d past a. settled d past.0;
  };
}

-- ---- the second

abbrev plan_of_link : Plan
plan_of_link = the (plan overridden_service 3 (link_of plug "p/Use"))

abbrev wants_of_link : List Want
wants_of_link = to_stand plan_of_link.own ++ flat_map to_link (lineage kin_of_use)

wanted_of_link : HasWants overridden_service (link_of plug "p/Use") plan_of_link wants_of_link
wanted_of_link = record { planned = record { height = 3; planned = refl }; past = flat_map to_link (lineage kin_of_use); follows = (kin_of_use, lineage_of_use, refl); whole = refl }

prepare_next : (s : State) (c : Class) → IsFirst s wants_of_link (ToPrepare c) → (Contains s.prepared c → ⊥) → IsNextStep serving s (link_of plug "p/Use") (Prepare c)
prepare_next s c first may = record { plan = plan_of_link; wants = wants_of_link; wanted = wanted_of_link; next = inl (ToPrepare c, first, may, refl) }

abbrev second_round : State
second_round = state_after start (loading ++ resolving ++ NextRound ∷ [])

abbrev object_prepared : State
object_prepared = after second_round (Prepare the_root)

abbrev use_prepared : State
use_prepared = after unprepared (Prepare (in_plug "p/Use"))

linked : ComesTo serving use_prepared (link_of plug "p/Use") (IsLinked (in_plug "p/Use"))
linked = record {
  plan = plan_of_link;
  wants = wants_of_link;
  wanted = wanted_of_link;
  over = inl (refl, (refl, (refl, (refl, (refl, ((0, omega arith, refl), ((1, omega arith, refl), (joined, ((2, omega arith, refl), tt)))))))));
  may_say = record {
    answers = record {
      plan = plan_of_link;
      planned = record { height = 3; planned = refl };
      answered = inl (refl, inl (refl, inl (refl, inl (refl, inl (refl, inl (joined, refl))))));
    };
    rests = λ c e. subst (λ (d : Class). Contains use_prepared.prepared d) (one_linked _ _ e) (2, omega arith, refl);
  };
}

link_begun : IsBegun serving (link_of plug "p/Use") second_round (Prepare the_root ∷ Prepare (in_app "p/Svc") ∷ Prepare (in_plug "p/Use") ∷ [])
link_begun = (
  prepare_next second_round the_root (inr (refl, inr (refl, inr (refl, inr (refl, inr (refl, inl refl)))))) (λ h. absurd (let l : h.0 < 0 = h.1 in omega arith)),
  (
    prepare_next object_prepared (in_app "p/Svc") (inr (refl, inr (refl, inr (refl, inr (refl, inr (refl, inr ((0, omega arith, refl), inl refl))))))) svc_unprepared,
    (
      prepare_next unprepared (in_plug "p/Use") (inr (refl, inr (refl, inr (refl, inr (refl, inr (refl, inr ((0, omega arith, refl), inr ((1, omega arith, refl), inr (joined, inl refl))))))))) use_unprepared,
      tt,
    ),
  ),
)

-- ---- the third

abbrev plan_of_none : Plan
plan_of_none = the (plan overridden_service 3 (resolve_of plug "p/Use" 9))

no_reference : ComesTo serving (after use_prepared (Post 1 (Said (IsLinked (in_plug "p/Use"))))) (resolve_of plug "p/Use" 9) BadEntry
no_reference = record {
  plan = plan_of_none;
  wants = to_stand plan_of_none.own ++ to_stand plan_of_none.more;
  wanted = record { planned = record { height = 3; planned = refl }; past = to_stand plan_of_none.more; follows = refl; whole = refl };
  over = inl (refl, (refl, (refl, (refl, (refl, tt)))));
  may_say = record {
    answers = record {
      plan = plan_of_none;
      planned = record { height = 3; planned = refl };
      answered = inl (refl, inl (refl, inl (refl, inl (refl, inl (refl, refl)))));
    };
    rests = λ d past a. absurd (a.is_entry refl);
  };
}

-- ---- the rounds

first_waits : MayGoOn serving start → ⊥
first_waits h = absurd (let e : false ≡ true = h.answered 0 _ refl refl in cc)

second_waits : MayGoOn serving second_round → ⊥
second_waits h = absurd (let e : false ≡ true = h.answered 1 _ refl refl in cc)

none_later : (s : State) → s.round ≡ 1 → MayGoOn serving s → ⊥
none_later s e h = absurd (let l : s.round + 1 < 2 = h.later in omega arith)

pub returns : goal.returns
returns c = (
  [],
  loading ++ resolving,
  linking,
  refl,
  first_waits,
  record { steps = loading ++ Constrain (codes "p/T") app plug ∷ Settle (in_plug "p/Use") 1 of_svc ∷ []; begun = begun; answer = Said of_svc; ends = resolved; posted = refl },
  (
    NextRound ∷ [],
    Prepare the_root ∷ Prepare (in_app "p/Svc") ∷ Prepare (in_plug "p/Use") ∷ Post 1 (Said (IsLinked (in_plug "p/Use"))) ∷ [],
    Post 2 (Said BadEntry) ∷ [],
    refl,
    (refl, record { answered = first_round; later = omega arith }, second_waits),
    record { steps = Prepare the_root ∷ Prepare (in_app "p/Svc") ∷ Prepare (in_plug "p/Use") ∷ []; begun = link_begun; answer = Said (IsLinked (in_plug "p/Use")); ends = linked; posted = refl },
    (
      [],
      Post 2 (Said BadEntry) ∷ [],
      [],
      refl,
      none_later _ refl,
      record { steps = []; begun = tt; answer = Said BadEntry; ends = no_reference; posted = refl },
      none_later _ refl,
    ),
  ),
)
