-- What the examples of runs rest on.
use Rattle.std.proofs.Common.{ap, inl, inr, Result, slice_get, ◌≡◌, ◌≢◌, ◌⊎◌, ℕ, zero, suc, arith, [], ◌∷◌, ◌++◌, List, Option, Some, None, Ok, Err, sym, subst, ◌∙◌, refl, codes}
use Rattle.std.specs.Prelude.{Contains, IsSome}
use Rattle.cl_classfile.specs.Files.{Name, File}
use Rattle.cl_model.specs.declared.class.Class.{Class}
use Rattle.cl_model.specs.Homes.{World}
use Rattle.cl_model.specs.Classes.{class, Error, ClassNotFound, IsGood}
use Rattle.cl_model.specs.Lineages.{Kin, Bare, alone}
use Rattle.cl_model.specs.States.{State, Verdict, Need, Met, Said, Entry, Equal, Equality, Joined, IsPathBetween, Linked, MayAdd, answer_to, recorded_definer, settled_to, start}
use Rattle.cl_model.specs.Works.{Made}
use Rattle.cl_model.specs.Plans.{derive, resolve, Plan, Request}
use Rattle.cl_model.specs.Machine.{HasLineage, IsResolution, Answers, Setting, Scheduled, IsPlan, RestsOn, MayPost, MaySay, NextRound, Prepare, state_after}
use Rattle.cl_model.specs.Examples.{app, in_boot, in_app, in_plug, plug, root, the_root}
use Rattle.cl_model.specs.ExampleReferences.{svc, use_of_svc, service}
use Rattle.cl_model.specs.ExampleRuns.{loading, of_svc, overridden_service, resolving, serving, unprepared, unsettled, user}
use Rattle.cl_model.proofs.Derived.{derive_yields}
use Rattle.cl_model.proofs.Planned.{one_plan}
use Rattle.cl_model.proofs.Refusals.{no_equality, missing}

-- work that computes
abbrev pub the_made : {A : Type 0} → Option (Made A) → Made A
the_made None = record { needs = []; asked = []; ends = Err (ClassNotFound (class [] 0)) }
the_made (Some m) = m

-- without an equality a loader is joined with itself alone
pub joined_alone : (ks : List Equality) (name : Name) (a b : ℕ) → ks ≡ [] → Joined ks name a b → a ≡ b
joined_alone ks name a b none h = along h.path (subst (λ (es : List Equality). IsPathBetween es name a h.path b) none h.along)
  where
    along : (path : List ℕ) → IsPathBetween [] name a path b → a ≡ b
    along [] h = h
    along (c ∷ cs) h = absurd (no_equality h.0.equality h.0.imposed)

-- that T is the same in app and another loader
abbrev pub for_t : ℕ → List Equality
for_t other = record { name = codes "p/T"; one = app; other = other } ∷ []

-- by that equality alone each of its loaders is joined with both alone
pub joined_in_pair : (o a b : ℕ) → (a ≡ app) ⊎ (a ≡ o) → Joined (for_t o) (codes "p/T") a b → (b ≡ app) ⊎ (b ≡ o)
joined_in_pair o a b one h = ends a h.path b one h.along
  where
    only_one : (e : Equality) → Contains (for_t o) e → record { name = codes "p/T"; one = app; other = o } ≡ e
    only_one e (zero, l, h) = h
    only_one e (suc x, l, h) = absurd (omega arith)

    step : (a b : ℕ) → Linked (for_t o) (codes "p/T") a b → (b ≡ app) ⊎ (b ≡ o)
    step a b h = along h.ends
      where
        along : ((h.equality.one ≡ a) × (h.equality.other ≡ b)) ⊎ ((h.equality.one ≡ b) × (h.equality.other ≡ a)) → (b ≡ app) ⊎ (b ≡ o)
        along (inl e) = inr (sym e.1 ∙ sym (ap (λ (k : Equality). k.other) (only_one h.equality h.imposed)))
        along (inr e) = inl (sym e.0 ∙ sym (ap (λ (k : Equality). k.one) (only_one h.equality h.imposed)))

    ends : (a : ℕ) (path : List ℕ) (b : ℕ) → (a ≡ app) ⊎ (a ≡ o) → IsPathBetween (for_t o) (codes "p/T") a path b → (b ≡ app) ⊎ (b ≡ o)
    ends a [] b one e = subst (λ (l : ℕ). (l ≡ app) ⊎ (l ≡ o)) e one
    ends a (l ∷ ls) b one e = ends l ls b (step a l e.0) e.1

-- without an equality a record may be added where there is none
pub free_entry : (s : State) (name : Name) (loader place : ℕ) → s.equalities ≡ [] → recorded_definer s.records loader name ≡ None → MayAdd s (Entry loader name place)
free_entry s name loader place none fresh = record {
  unmet = λ h. missing (sym fresh ∙ h);
  fits = λ d. missing (sym fresh ∙ subst (λ (l : ℕ). recorded_definer s.records l name ≡ Some d.other_place) (sym (joined_alone s.equalities name loader d.other none d.joined)) d.recorded_there);
}

-- the first equality may be imposed where one of its loaders has no record
pub free_equal : (s : State) (name : Name) (a b : ℕ) → s.equalities ≡ [] → a ≢ b → recorded_definer s.records a name ≡ None → MayAdd s (Equal name a b)
free_equal s name a b none differ fresh = record {
  unmet = λ h. differ (joined_alone s.equalities name a b none h);
  fits = λ d. missing (sym fresh ∙ subst (λ (l : ℕ). recorded_definer s.records l name ≡ Some d.place) (sym (joined_alone s.equalities name a d.one none d.joined)) d.recorded_there);
}

-- a class that has a lineage is good
pub good_by : (w : World) (c : Class) (k : Kin) → HasLineage w c k → IsGood w c
good_by w c k h = (h.height, (derive_yields w h.height [] c h.made k h.derived h.ends).0)

-- ---- the lineages of the world of a run

abbrev pub kin_of_object : Kin
kin_of_object = record { class = in_boot "java/lang/Object"; file = root; superclass = Bare; interfaces = Bare }

abbrev pub kin_of_svc : Kin
kin_of_svc = record { class = in_app "p/Svc"; file = svc; superclass = alone kin_of_object; interfaces = Bare }

abbrev pub kin_of_use : Kin
kin_of_use = record { class = in_plug "p/Use"; file = user; superclass = alone kin_of_svc; interfaces = Bare }

pub lineage_of_object : HasLineage overridden_service (in_boot "java/lang/Object") kin_of_object
lineage_of_object = record { height = 3; made = the_made (derive overridden_service 3 [] (in_boot "java/lang/Object")); derived = refl; ends = refl }

pub lineage_of_svc : HasLineage overridden_service (in_app "p/Svc") kin_of_svc
lineage_of_svc = record { height = 3; made = the_made (derive overridden_service 3 [] (in_app "p/Svc")); derived = refl; ends = refl }

pub lineage_of_use : HasLineage overridden_service (in_plug "p/Use") kin_of_use
lineage_of_use = record { height = 3; made = the_made (derive overridden_service 3 [] (in_plug "p/Use")); derived = refl; ends = refl }

-- how the reference of the run is resolved
abbrev pub made_of_svc : Made Verdict
made_of_svc = the_made (resolve overridden_service 3 kin_of_use 1)

pub resolution_of_svc : IsResolution overridden_service (in_plug "p/Use") 1 made_of_svc
resolution_of_svc = record { kin = kin_of_use; above = lineage_of_use; height = 3; made = refl }

-- ---- the reference of the world of a service

abbrev pub kin_of_user : Kin
kin_of_user = record { class = in_plug "p/Use"; file = use_of_svc; superclass = alone kin_of_object; interfaces = Bare }

-- how its reference is resolved
abbrev pub made_of_service : Made Verdict
made_of_service = the_made (resolve service 3 kin_of_user 1)

pub resolution_of_service : IsResolution service (in_plug "p/Use") 1 made_of_service
resolution_of_service = record {
  kin = kin_of_user;
  above = record { height = 3; made = the_made (derive service 3 [] (in_plug "p/Use")); derived = refl; ends = refl };
  height = 3;
  made = refl;
}

-- ---- along the run of two requests in two rounds

-- the equality that the reference imposes joins its two loaders
pub joined : Joined unsettled.equalities (codes "p/T") app plug
joined = record { path = plug ∷ []; along = (record { equality = record { name = codes "p/T"; one = app; other = plug }; imposed = (0, omega arith, refl); named = refl; ends = inl (refl, refl) }, refl) }

-- the only reference that is settled
pub settled : (d : Class) → Some (in_plug "p/Use") ≡ Some d → settled_to (record { class = in_plug "p/Use"; index = 1; verdict = of_svc } ∷ []) d 1 ≡ Some of_svc
settled d e = subst (λ (c : Class). settled_to (record { class = in_plug "p/Use"; index = 1; verdict = of_svc } ∷ []) c 1 ≡ Some of_svc) (same_class e) refl
  where
    same_class : {a b : Class} → Some a ≡ Some b → a ≡ b
    same_class e = cc

-- an equation of a request's entry gives its round
pub round_is : {a b : Scheduled} → Some a ≡ Some b → a.round ≡ b.round
round_is e = cc

no_entry : {a : Scheduled} → None ≡ Some a → ⊥
no_entry e = cc

-- all requests of the first round are answered
pub first_round : (q : ℕ) (e : Scheduled) → slice_get serving.script q ≡ Some e → e.round ≡ 0 → IsSome (answer_to (state_after start (loading ++ resolving)).answers q)
first_round zero e h r = refl
first_round (suc zero) e h r = absurd (let one : 1 ≡ e.round = round_is h in omega arith)
first_round (suc (suc zero)) e h r = absurd (let one : 1 ≡ e.round = round_is h in omega arith)
first_round (suc (suc (suc q))) e h r = absurd (no_entry h)

-- ---- what tells that a step is too early

-- classes of two loaders are two
pub other_loader : {a b : Class} → a.loader ≢ b.loader → a ≡ b → ⊥
other_loader differ e = differ (ap (λ (c : Class). c.loader) e)

-- Svc is not prepared before its turn
pub svc_unprepared : Contains (state_after start (loading ++ resolving ++ NextRound ∷ Prepare the_root ∷ [])).prepared (in_app "p/Svc") → ⊥
svc_unprepared (zero, l, e) = other_loader (λ d. absurd cc) e
svc_unprepared (suc x, l, e) = absurd (omega arith)

-- nor is Use
pub use_unprepared : Contains unprepared.prepared (in_plug "p/Use") → ⊥
use_unprepared (zero, l, e) = other_loader (λ d. absurd cc) e
use_unprepared (suc zero, l, e) = other_loader (λ d. absurd cc) e
use_unprepared (suc (suc x), l, e) = absurd (omega arith)

pub same_file : {f g : File} → (r : Result File Error) → r ≡ Ok f → r ≡ Ok g → f ≡ g
same_file r a b = cc

-- a need that stands is not the one that is refused
pub past : (s : State) (n : Need) (ns : List Need) (ends v : Verdict) → Met s n → Answers s (n ∷ ns) ends v → Answers s ns ends v
past s n ns ends v m (inl a) = a.1
past s n ns ends v m (inr r) = absurd (r.0.unmet m)

-- what may be posted for a request may be said of it
pub said_of : (g : Setting) (s : State) (q : ℕ) (e : Scheduled) (v : Verdict) → slice_get g.script q ≡ Some e → MayPost g s q (Said v) → MaySay g s e.request v
said_of g s q e v asked h = subst (λ (d : Scheduled). MaySay g s d.request v) (same h.scheduled e (slice_get g.script q) h.asked asked) h.fits
  where
    same : (a b : Scheduled) (o : Option Scheduled) → o ≡ Some a → o ≡ Some b → a ≡ b
    same a b o x y = cc

-- and it rests on what that plan says
pub rests_of : (g : Setting) (s : State) (q : Request) (p : Plan) (v : Verdict) → IsPlan g.world q p → MaySay g s q v → RestsOn s q p v
rests_of g s q p v planned h = subst (λ (r : Plan). RestsOn s q r v) (one_plan g.world q h.answers.plan p h.answers.planned planned) h.rests
