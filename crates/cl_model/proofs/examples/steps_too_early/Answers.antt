use Rattle.std.proofs.Common.{◌≡◌, ◌<◌, List, Some, None, [], ◌∷◌, ◌++◌, inl, inr, refl, subst, codes, arith}
use Rattle.std.specs.Prelude.{Contains}
use Rattle.cl_classfile.specs.Files.{File}
use Rattle.cl_model.specs.declared.class.Class.{Class}
use Rattle.cl_model.specs.Classes.{AllAtHome, supers, read_class}
use Rattle.cl_model.specs.Lineages.{Kin}
use Rattle.cl_model.specs.Preparation.{constraints_of}
use Rattle.cl_model.specs.States.{Verdict, Need, IsLinked, Linkage, Keeps, AllMet, start}
use Rattle.cl_model.specs.Works.{Made}
use Rattle.cl_model.specs.Plans.{plan, ending_verdict}
use Rattle.cl_model.specs.Machine.{AreOfRecorded, Answers, Prepare, state_after}
use Rattle.cl_model.specs.Examples.{app, plug, in_boot, in_app, in_plug, resolve_of, link_of}
use Rattle.cl_model.specs.ExampleRuns.{overridden_service, serving, loading, of_svc, unsettled, unprepared}
use Rattle.cl_model.proofs.Planned.{one_lineage, one_resolution}
use Rattle.cl_model.proofs.Refusals.{the, missing}
use Rattle.cl_model.proofs.Served.{joined_alone, same_file, said_of, rests_of, kin_of_use, lineage_of_use, made_of_svc, resolution_of_svc, use_unprepared}
use Rattle.cl_model.proofs.examples.steps_too_early.Goals as goal

pub returns-clause-define : goal.returns-clause-define
returns-clause-define c h =
    missing
    (subst (λ (f : File). AllAtHome overridden_service (in_app "p/Svc") (Keeps start app) (supers f))
    (same_file (read_class overridden_service (in_app "p/Svc")) h.has_file refl) h.above).0.holds

pub returns-clause-initiate : goal.returns-clause-initiate
returns-clause-initiate c h = missing h.defined

-- nothing imposes where nothing is recorded
no_list : (needs : List Need) → AreOfRecorded serving start needs → ⊥
no_list needs (inl i) = missing i.1
no_list needs (inr i) = missing i.1

pub returns-clause-constrain : goal.returns-clause-constrain
returns-clause-constrain c h = no_list h.needs h.imposes

not_refused : {n : Need} → of_svc ≡ Linkage n → ⊥
not_refused e = absurd cc

-- the equality is neither met nor what is answered
unequal : Answers (state_after start loading) made_of_svc.needs (ending_verdict made_of_svc.ends) of_svc → ⊥
unequal (inl (m, inl (n, inl (o, inl (p, inl (j, e)))))) = absurd (let same : app ≡ plug = joined_alone [] (codes "p/T") app plug refl j in cc)
unequal (inl (m, inl (n, inl (o, inl (p, inr (r, e)))))) = not_refused e
unequal (inl (m, inl (n, inl (o, inr (r, e))))) = not_refused e
unequal (inl (m, inl (n, inr (r, e)))) = not_refused e
unequal (inl (m, inr (r, e))) = not_refused e
unequal (inr (r, e)) = not_refused e

pub returns-clause-settle : goal.returns-clause-settle
returns-clause-settle c h =
    unequal
    (subst (λ (m : Made Verdict). Answers (state_after start loading) m.needs (ending_verdict m.ends) of_svc)
    (one_resolution overridden_service (in_plug "p/Use") 1 h.answered.made made_of_svc h.answered.resolved resolution_of_svc) h.answered.answered)

pub returns-clause-settle_unrecorded : goal.returns-clause-settle_unrecorded
returns-clause-settle_unrecorded c h = missing h.may_keep.recorded

unsettled_yet : {v : Verdict} → None ≡ Some v → ⊥
unsettled_yet e = cc

pub returns-clause-resolve : goal.returns-clause-resolve
returns-clause-resolve c h =
    unsettled_yet
    (rests_of serving unsettled (resolve_of plug "p/Use" 1) (the (plan overridden_service 3 (resolve_of plug "p/Use" 1))) of_svc (record { height = 3; planned = refl })
    (said_of serving unsettled 0 (record { request = resolve_of plug "p/Use" 1; round = 0 }) of_svc refl h) (in_plug "p/Use") (refl, (refl, (refl, (refl, (refl, (refl, tt)))))) (record { is_entry = λ e. absurd cc; is_class_member = λ e. absurd cc }))

pub returns-clause-prepare_unrecorded : goal.returns-clause-prepare_unrecorded
returns-clause-prepare_unrecorded c h = missing h.preparable.recorded

none_of : {d : Class} → Contains [] d → ⊥
none_of h = absurd (let l : h.0 < 0 = h.1 in omega arith)

pub returns-clause-prepare_below : goal.returns-clause-prepare_below
returns-clause-prepare_below c h =
    none_of
    (subst (λ (k : Kin). AllAtHome overridden_service (in_plug "p/Use") (Contains unsettled.prepared) (supers k.file))
    (one_lineage overridden_service (in_plug "p/Use") h.preparable.kin kin_of_use h.preparable.lineage lineage_of_use) h.preparable.above).0.holds

pub returns-clause-prepare_unconstrained : goal.returns-clause-prepare_unconstrained
returns-clause-prepare_unconstrained c h = absurd (let same : app ≡ plug = joined_alone [] (codes "p/T") app plug refl (subst (λ (k : Kin). AllMet (state_after start (loading ++ Prepare (in_boot "java/lang/Object") ∷ Prepare (in_app "p/Svc") ∷ [])) (constraints_of k)) (one_lineage overridden_service (in_plug "p/Use") h.preparable.kin kin_of_use h.preparable.lineage lineage_of_use) h.preparable.imposed).0 in cc)

pub returns-clause-link : goal.returns-clause-link
returns-clause-link c h =
    use_unprepared
    (rests_of serving unprepared (link_of plug "p/Use") (the (plan overridden_service 3 (link_of plug "p/Use"))) (IsLinked (in_plug "p/Use")) (record { height = 3; planned = refl })
    (said_of serving unprepared 1 (record { request = link_of plug "p/Use"; round = 1 }) (IsLinked (in_plug "p/Use")) refl h) (in_plug "p/Use") refl)
