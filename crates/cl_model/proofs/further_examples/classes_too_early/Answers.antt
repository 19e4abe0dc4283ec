use Rattle.std.proofs.Common.{◌≡◌, ℕ, zero, suc, List, Some, [], ◌∷◌, Result, Ok, Err, inl, inr, refl, sym, subst, ap, ◌∙◌, codes, arith}
use Rattle.std.specs.Prelude.{Contains}
use Rattle.cl_classfile.specs.Files.{Name, File}
use Rattle.cl_model.specs.declared.class.Class.{Class}
use Rattle.cl_model.specs.Homes.{World}
use Rattle.cl_model.specs.Classes.{Error, AllAtHome, supers, read_class}
use Rattle.cl_model.specs.Lineages.{Kin}
use Rattle.cl_model.specs.Preparation.{constraints_of}
use Rattle.cl_model.specs.States.{Need, Equal, Verdict, BadEntry, IsRecorded, Keeps, IsNext}
use Rattle.cl_model.specs.Works.{Made}
use Rattle.cl_model.specs.Plans.{derive, resolve}
use Rattle.cl_model.specs.Machine.{AreOfRecorded, HasLineage, IsResolution}
use Rattle.cl_model.specs.Examples.{boot, app, plug, object, in_app, the_root}
use Rattle.cl_model.specs.ExampleOverriding.{through_kid}
use Rattle.cl_model.specs.ExampleReferences.{nearest}
use Rattle.cl_model.specs.ExampleRuns.{over, root_in_plug, root_in_app, interface_unprepared}
use Rattle.cl_model.proofs.Planned.{one_lineage}
use Rattle.cl_model.proofs.Refusals.{missing}
use Rattle.cl_model.proofs.Runs.{recorded_added}
use Rattle.cl_model.proofs.Served.{the_made, same_file, kin_of_object}
use Rattle.cl_model.proofs.further_examples.classes_too_early.Goals as goal

pub returns-clause-define : goal.returns-clause-define
returns-clause-define c h =
    missing
    (subst (λ (f : File). AllAtHome through_kid (in_app "p/R") (Keeps root_in_app app) (supers f))
    (same_file (read_class through_kid (in_app "p/R")) h.has_file refl) h.above).1.0.holds

-- a lineage that computes
abbrev the_kin : Result Kin Error → Kin
the_kin (Ok k) = k
the_kin (Err e) = kin_of_object

abbrev kin_at : World → Class → Kin
kin_at w c = the_kin (the_made (derive w 3 [] c)).ends

lineage_of_r : HasLineage through_kid (in_app "p/R") (kin_at through_kid (in_app "p/R"))
lineage_of_r = record { height = 3; made = the_made (derive through_kid 3 [] (in_app "p/R")); derived = refl; ends = refl }

-- the root alone is prepared
other_name : {x : ℕ} → Contains (the_root ∷ []) (record { name = codes "b/I"; loader = x }) → ⊥
other_name (zero, l, e) = absurd (let same : object ≡ codes "b/I" = ap (λ (c : Class). c.name) e in cc)
other_name (suc x, l, e) = absurd (omega arith)

pub returns-clause-prepare : goal.returns-clause-prepare
returns-clause-prepare c h =
    other_name
    (subst (λ (k : Kin). AllAtHome through_kid (in_app "p/R") (Contains interface_unprepared.prepared) (supers k.file))
    (one_lineage through_kid (in_app "p/R") h.preparable.kin (kin_at through_kid (in_app "p/R")) h.preparable.lineage lineage_of_r) h.preparable.above).1.0.holds

root_by : (c : Class) → object ≡ c.name → boot ≡ c.loader → c ≡ the_root
root_by c n l = sym (subst (λ (x : Name). the_root ≡ record { name = x; loader = c.loader }) n (subst (λ (y : ℕ). the_root ≡ record { name = object; loader = y }) l refl))

-- the root is the only class that is recorded
only_root : (c : Class) → IsRecorded root_in_plug c → c ≡ the_root
only_root c h =
    elim (recorded_added (record { loader = boot; name = object; place = boot } ∷ []) (record { loader = plug; name = object; place = boot }) c.loader c.loader c.name h) [
      | inr e ↦ absurd (let same : plug ≡ boot = e.0 ∙ sym e.2 in cc)
      | inl k ↦ elim (recorded_added [] (record { loader = boot; name = object; place = boot }) c.loader c.loader c.name k) [
        | inr e ↦ root_by c e.1 e.0
        | inl n ↦ absurd (missing n)
      ]
    ]

lineage_of_root : HasLineage nearest the_root (kin_at nearest the_root)
lineage_of_root = record { height = 3; made = the_made (derive nearest 3 [] the_root); derived = refl; ends = refl }

no_needs : (m : Made Verdict) → Some (record { needs = []; asked = []; ends = Ok BadEntry }) ≡ Some m → m.needs ≡ []
no_needs m e = cc

-- and it names nothing
unresolved : (i : ℕ) (m : Made Verdict) → IsResolution nearest the_root i m → m.needs ≡ []
unresolved i m h = no_needs m (subst (λ (k : Kin). resolve nearest h.height k i ≡ Some m) (one_lineage nearest the_root h.kin (kin_at nearest the_root) h.above lineage_of_root) h.made)

no_list : (needs : List Need) → AreOfRecorded (over nearest) root_in_plug needs → needs ≡ []
no_list needs (inl (c, r, (k, l, e))) = e ∙ ap (λ (x : Kin). constraints_of x) (one_lineage nearest the_root k (kin_at nearest the_root) (subst (λ (d : Class). HasLineage nearest d k) (only_root c r) l) lineage_of_root)
no_list needs (inr (d, r, (i, m, x, e))) = e ∙ unresolved i m (subst (λ (c : Class). IsResolution nearest c i m) (only_root d r) x)

pub returns-clause-constrain : goal.returns-clause-constrain
returns-clause-constrain c h = subst (λ (needs : List Need). IsNext root_in_plug needs (Equal (codes "p/T") boot plug)) (no_list h.needs h.imposes) h.next
