-- In a sound state a class that is prepared has all of its lineage linked.
use Rattle.std.proofs.Common.{◌≡◌, ℕ, List, [], ◌∷◌, Some, sym, subst}
use Rattle.std.specs.Prelude.{Contains}
use Rattle.std.specs.List.{AllByRecursion}
use Rattle.cl_classfile.specs.Files.{Name}
use Rattle.cl_model.specs.declared.class.Class.{Class}
use Rattle.cl_model.specs.Classes.{class}
use Rattle.cl_model.specs.Lineages.{Kin, IsLineage, lineage}
use Rattle.cl_model.specs.Preparation.{constraints_of}
use Rattle.cl_model.specs.States.{State, IsLinked, AllMet, recorded_definer}
use Rattle.cl_model.specs.Plans.{Link}
use Rattle.cl_model.specs.Machine.{Setting, IsSound}
use Rattle.cl_model.specs.Service.{IsLinkedIn, ComesTo}
use Rattle.cl_model.proofs.Gone.{link_comes}
use Rattle.cl_model.proofs.Planned.{one_lineage}
use Rattle.cl_model.proofs.Posted.{lineage_prepared}
use Rattle.cl_model.proofs.Progress.{IsKept, lineage_kept}
use Rattle.cl_model.proofs.Trees.{lineage_of, lineage_is_derived}

-- a prepared class of known lineage is linked
linked_in : (g : Setting) (s : State) (k : Kin) → IsSound g s → IsLineage g.world k → Contains s.prepared k.class → IsLinkedIn s k
linked_in g s k sound h own =
    let is = sound.prepared k.class own in
    let same : is.kin ≡ k = one_lineage g.world k.class is.kin k is.lineage (lineage_is_derived g.world k h) in
    record { imposed = subst (λ (x : Kin). AllMet s (constraints_of x)) same is.imposed; prepared = own }

each_linked : (g : Setting) (s : State) (ks : List Kin) → IsSound g s → AllByRecursion (λ (a : Kin). Contains s.prepared a.class) ks → AllByRecursion (IsKept g.world s) ks → AllByRecursion (IsLinkedIn s) ks
each_linked g s [] sound own kept = tt
each_linked g s (k ∷ ks) sound own kept = (linked_in g s k sound kept.0.1 own.0, each_linked g s ks sound own.1 kept.1)

lineage_linked : (g : Setting) (s : State) (k : Kin) → IsSound g s → IsLineage g.world k → Contains s.prepared k.class → AllByRecursion (IsLinkedIn s) (lineage k)
lineage_linked g s k sound h own =
    each_linked g s (lineage k) sound (lineage_prepared g s k sound h own) (lineage_kept g.world s k sound.closed (sound.prepared k.class own).recorded h)

-- a request to link a class that its loader has recorded and that is prepared comes to that
pub prepared_comes : (g : Setting) (s : State) (loader place : ℕ) (name : Name) → IsSound g s → recorded_definer s.records loader name ≡ Some place → Contains s.prepared (class name place) → ComesTo g s (Link loader name) (IsLinked (class name place))
prepared_comes g s loader place name sound at own =
    let w = g.world in
    let d = class name place in
    let is = sound.prepared d own in
    let lin = lineage_of w d is.kin is.lineage in
    link_comes g s loader place name is.kin sound.closed at is.lineage (lineage_linked g s is.kin sound lin.1 (subst (λ (c : Class). Contains s.prepared c) (sym lin.0) own))
