use Rattle.std.proofs.Common.{subst, ◌++◌, inl, inr, refl, codes, [], ◌∷◌, arith}
use Rattle.std.specs.Prelude.{Contains}
use Rattle.cl_model.specs.declared.class.Class.{Class}
use Rattle.cl_model.specs.Plans.{plan}
use Rattle.cl_model.specs.States.{State, IsLinked, BadEntry, Said, start}
use Rattle.cl_model.specs.Machine.{Run, May, Define, Initiate, Constrain, Settle, Prepare, Post, NextRound, after, state_after}
use Rattle.cl_model.specs.Examples.{boot, app, plug, object, in_boot, in_app, in_plug, root, resolve_of, link_of}
use Rattle.cl_model.specs.ExampleReferences.{svc}
use Rattle.cl_model.specs.ExampleRuns.{overridden_service, user, serving, loading, resolving, of_svc}
use Rattle.cl_model.proofs.Refusals.{the}
use Rattle.cl_model.proofs.Served.{first_round, free_entry, free_equal, good_by, joined, kin_of_object, kin_of_svc, kin_of_use, lineage_of_object, lineage_of_svc, lineage_of_use, made_of_svc, resolution_of_svc, settled, svc_unprepared, use_unprepared}
use Rattle.cl_model.proofs.examples.resolve_and_link.Goals as goal
use Rattle.cl_model.proofs.Tables.{one_linked}

abbrev object_prepared : State
object_prepared = state_after start (loading ++ resolving ++ NextRound ∷ Prepare (in_boot "java/lang/Object") ∷ [])

abbrev svc_prepared : State
svc_prepared = after object_prepared (Prepare (in_app "p/Svc"))

abbrev use_prepared : State
use_prepared = after svc_prepared (Prepare (in_plug "p/Use"))

load_object : May serving start (Define (in_boot "java/lang/Object"))
load_object = record {
  at_home = refl;
  good = good_by overridden_service (in_boot "java/lang/Object") kin_of_object lineage_of_object;
  file = root;
  has_file = refl;
  above = tt;
  may_add = free_entry start object boot boot refl refl;
}

load_svc : Run serving (state_after start (Define (in_boot "java/lang/Object") ∷ [])) (Initiate object boot app ∷ Define (in_app "p/Svc") ∷ Initiate (codes "p/Svc") app plug ∷ [])
load_svc = (
  record { found = refl; not_own = λ e. absurd cc; defined = refl; may_add = free_entry _ object app boot refl refl },
  (
    record {
      at_home = refl;
      good = good_by overridden_service (in_app "p/Svc") kin_of_svc lineage_of_svc;
      file = svc;
      has_file = refl;
      above = (record { place = boot; found = refl; holds = refl }, tt);
      may_add = free_entry _ (codes "p/Svc") app app refl refl;
    },
    (record { found = refl; not_own = λ e. absurd cc; defined = refl; may_add = free_entry _ (codes "p/Svc") plug app refl refl }, tt),
  ),
)

load_use : May serving (state_after start (Define (in_boot "java/lang/Object") ∷ Initiate object boot app ∷ Define (in_app "p/Svc") ∷ Initiate (codes "p/Svc") app plug ∷ [])) (Define (in_plug "p/Use"))
load_use = record {
  at_home = refl;
  good = good_by overridden_service (in_plug "p/Use") kin_of_use lineage_of_use;
  file = user;
  has_file = refl;
  above = (record { place = app; found = refl; holds = refl }, tt);
  may_add = free_entry _ (codes "p/Use") plug plug refl refl;
}

constrain : May serving (state_after start loading) (Constrain (codes "p/T") app plug)
constrain = record {
  needs = made_of_svc.needs;
  imposes = inr (in_plug "p/Use", refl, (1, made_of_svc, resolution_of_svc, refl));
  next = inr (refl, inr (refl, inr (refl, inr (refl, inl refl))));
  may_add = free_equal _ (codes "p/T") app plug refl (λ e. absurd cc) refl;
}

settle : May serving (state_after start (loading ++ Constrain (codes "p/T") app plug ∷ [])) (Settle (in_plug "p/Use") 1 of_svc)
settle = record {
  may_keep = record { recorded = refl; unsettled = refl; settling = record { is_entry = λ e. absurd cc; is_class_member = λ e. absurd cc } };
  answered = record { made = made_of_svc; resolved = resolution_of_svc; answered = inl (refl, inl (refl, inl (refl, inl (refl, inl (joined, refl))))) };
}

answer : May serving (state_after start (loading ++ Constrain (codes "p/T") app plug ∷ Settle (in_plug "p/Use") 1 of_svc ∷ [])) (Post 0 (Said of_svc))
answer = record {
  scheduled = _;
  asked = refl;
  in_round = refl;
  unposted = refl;
  fits = record {
    answers = record {
      plan = the (plan overridden_service 3 (resolve_of plug "p/Use" 1));
      planned = record { height = 3; planned = refl };
      answered = inl (refl, inl (refl, inl (refl, inl (refl, inl (refl, inl (refl, inl (refl, inl (refl, inl (refl, inl (joined, refl))))))))));
    };
    rests = λ d past a. settled d past.0;
  };
}

prepare_svc : May serving object_prepared (Prepare (in_app "p/Svc"))
prepare_svc = record { unprepared = svc_unprepared; preparable = record { recorded = refl; kin = kin_of_svc; lineage = lineage_of_svc; above = (record { place = boot; found = refl; holds = (0, omega arith, refl) }, tt); imposed = tt } }

prepare_use : May serving svc_prepared (Prepare (in_plug "p/Use"))
prepare_use = record { unprepared = use_unprepared; preparable = record { recorded = refl; kin = kin_of_use; lineage = lineage_of_use; above = (record { place = app; found = refl; holds = (1, omega arith, refl) }, tt); imposed = (joined, tt) } }

linked : May serving use_prepared (Post 1 (Said (IsLinked (in_plug "p/Use"))))
linked = record {
  scheduled = _;
  asked = refl;
  in_round = refl;
  unposted = refl;
  fits = record {
    answers = record {
      plan = the (plan overridden_service 3 (link_of plug "p/Use"));
      planned = record { height = 3; planned = refl };
      answered = inl (refl, inl (refl, inl (refl, inl (refl, inl (refl, inl (joined, refl))))));
    };
    rests = λ c e. subst (λ (d : Class). Contains use_prepared.prepared d) (one_linked _ _ e) (2, omega arith, refl);
  };
}

no_reference : May serving (after use_prepared (Post 1 (Said (IsLinked (in_plug "p/Use"))))) (Post 2 (Said BadEntry))
no_reference = record {
  scheduled = _;
  asked = refl;
  in_round = refl;
  unposted = refl;
  fits = record {
    answers = record {
      plan = the (plan overridden_service 3 (resolve_of plug "p/Use" 9));
      planned = record { height = 3; planned = refl };
      answered = inl (refl, inl (refl, inl (refl, inl (refl, inl (refl, refl)))));
    };
    rests = λ d past a. absurd (a.is_entry refl);
  };
}

object_unprepared : Contains (state_after start (loading ++ resolving ++ NextRound ∷ [])).prepared (in_boot "java/lang/Object") → ⊥
object_unprepared (x, l, e) = absurd (omega arith)

pub returns : goal.returns
returns c = (
  load_object,
  (
    load_svc.0,
    (
      load_svc.1.0,
      (
        load_svc.1.1.0,
        (
          load_use,
          (
            constrain,
            (
              settle,
              (
                answer,
                (
                  record { answered = first_round; later = omega arith },
                  (
                    record { unprepared = object_unprepared; preparable = record { recorded = refl; kin = kin_of_object; lineage = lineage_of_object; above = tt; imposed = tt } },
                    (prepare_svc, (prepare_use, (linked, (no_reference, tt)))),
                  ),
                ),
              ),
            ),
          ),
        ),
      ),
    ),
  ),
)
