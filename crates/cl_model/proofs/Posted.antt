-- What may be settled and prepared, and what a posted verdict rests on.
use Rattle.std.proofs.Common.{◌≡◌, ℕ, List, [], ◌∷◌, ◌++◌, Some, None, refl, sym, subst, ◌∙◌, slice_get}
use Rattle.std.specs.Prelude.{Contains}
use Rattle.std.specs.List.{AllByRecursion}
use Rattle.cl_classfile.specs.Files.{Name, File}
use Rattle.cl_model.specs.Homes.{World, home}
use Rattle.cl_model.specs.declared.class.Class.{Class}
use Rattle.cl_model.specs.Classes.{class, Above, AtHome, AllAtHome, HasFile, read_class, superclass_of, superinterfaces_of, supers}
use Rattle.cl_model.specs.Lineages.{Forest, Bare, Tree, Kin, StandsFor, IsLineage, alone, postorder, lineage}
use Rattle.cl_model.specs.Preparation.{constraints_of}
use Rattle.cl_model.specs.States.{State, Verdict, IsSettling, IsLinked, Said, AllMet, IsRecorded, settled_to, answer_to}
use Rattle.cl_model.specs.Plans.{Request, Resolve, Link, Plan}
use Rattle.cl_model.specs.Machine.{Setting, Scheduled, Settle, Prepare, HasLineage, IsPlan, IsPastLoad, AnswersReference, MaySay, May, IsSound}
use Rattle.cl_model.proofs.Bind.{some_same, ok_same, value_same}
use Rattle.cl_model.proofs.Closed.{all_left, all_right}
use Rattle.cl_model.proofs.Planned.{one_plan, one_lineage}
use Rattle.cl_model.proofs.Progress.{class_is, once_kept}
use Rattle.cl_model.proofs.Trees.{lineage_of, lineage_is_derived}
use Rattle.cl_model.proofs.Derived.{all_both}

-- ---- what may be settled and prepared

pub may_settle : (g : Setting) (s : State) (d : Class) (i : ℕ) (v : Verdict) → IsRecorded s d → settled_to s.settled d i ≡ None → AnswersReference g s d i v → IsSettling v → May g s (Settle d i v)
may_settle g s d i v rec free a settling = record { may_keep = record { recorded = rec; unsettled = free; settling = settling }; answered = a }

pub may_prepare : (g : Setting) (s : State) (c : Class) (k : Kin) → IsRecorded s c → (Contains s.prepared c → ⊥) → HasLineage g.world c k → AllAtHome g.world c (Contains s.prepared) (supers k.file) → AllMet s (constraints_of k) → May g s (Prepare c)
may_prepare g s c k rec free lin above met = record { unprepared = free; preparable = record { recorded = rec; kin = k; lineage = lin; above = above; imposed = met } }

-- ---- what a posted verdict rests on

-- what was said of a request may be
request_said : (g : Setting) (s : State) (q : ℕ) (a : Scheduled) (v : Verdict) → IsSound g s → slice_get g.script q ≡ Some a → answer_to s.answers q ≡ Some (Said v) → MaySay g s a.request v
request_said g s q a v sound asked said =
    let c = sound.answered q (Said v) said in
    let one : c.scheduled ≡ a = some_same c.scheduled a (sym c.asked ∙ asked) in
    subst (λ (x : Scheduled). MaySay g s x.request v) one c.may_answer

pub said_is_settled : (g : Setting) (s : State) (q : ℕ) (a : Scheduled) (loader : ℕ) (name : Name) (i : ℕ) (p : Plan) (d : Class) (v : Verdict) → IsSound g s → slice_get g.script q ≡ Some a → a.request ≡ Resolve loader name i
    → IsPlan g.world (Resolve loader name i) p → IsPastLoad s p d → IsSettling v → answer_to s.answers q ≡ Some (Said v) → settled_to s.settled d i ≡ Some v
said_is_settled g s q a loader name i p d v sound asked is plan past settling said =
    let may : MaySay g s (Resolve loader name i) v = subst (λ (r : Request). MaySay g s r v) is (request_said g s q a v sound asked said) in
    let same : p ≡ may.answers.plan = one_plan g.world (Resolve loader name i) p may.answers.plan plan may.answers.planned in
    may.rests d (subst (λ (x : Plan). IsPastLoad s x d) same past) settling

pub linked_is_prepared : (g : Setting) (s : State) (q : ℕ) (a : Scheduled) (loader : ℕ) (name : Name) (c : Class) → IsSound g s → slice_get g.script q ≡ Some a → a.request ≡ Link loader name → answer_to s.answers q ≡ Some (Said (IsLinked c)) → Contains s.prepared c
linked_is_prepared g s q a loader name c sound asked is said =
    let may : MaySay g s (Link loader name) (IsLinked c) = subst (λ (r : Request). MaySay g s r (IsLinked c)) is (request_said g s q a (IsLinked c) sound asked said) in
    may.rests c refl

-- ---- what is prepared has its whole lineage prepared

-- the supertypes of a class that is prepared are
abbrev AbovePrepared : World → State → Class → List Above → Type 0
AbovePrepared w s c others = AllAtHome w c (Contains s.prepared) others

forest_prepared : (g : Setting) (s : State) (c : Class) (fs : Forest) (others : List Above) → IsSound g s → AbovePrepared g.world s c others → StandsFor g.world c fs others → AllByRecursion (λ (k : Kin). Contains s.prepared k.class) (postorder fs)
forest_prepared g s c Bare others sound all h = tt
forest_prepared g s c (Tree t f sup ints rest) [] sound all h = absurd h
forest_prepared g s c (Tree t f sup ints rest) (a ∷ more) sound all h =
    let w = g.world in
    let P = λ (k : Kin). Contains s.prepared k.class in
    let same : t ≡ class a.name all.0.place = class_is t a.name all.0.place h.0.named (value_same t.loader all.0.place (home w c.loader a.name) h.0.found all.0.found) in
    let own : Contains s.prepared t = subst (λ (x : Class). Contains s.prepared x) (sym same) all.0.holds in
    let k : Kin = record { class = t; file = f; superclass = sup; interfaces = ints } in
    let is = sound.prepared t own in
    let lin = lineage_of w t is.kin is.lineage in
    let file : is.kin.file ≡ f = file_same is.kin.file f t (subst (λ (x : Class). HasFile w x is.kin.file) lin.0 lin.1.has_file) h.0.has_file in
    let above : AbovePrepared w s t (superclass_of f ++ superinterfaces_of f) = subst (λ (x : File). AbovePrepared w s t (supers x)) file is.above in
    all_both P (postorder sup ++ postorder ints) (k ∷ postorder rest)
    (all_both P (postorder sup) (postorder ints)
    (forest_prepared g s t sup (superclass_of f) sound (all_left (λ (x : Above). AtHome w t (Contains s.prepared) x.name) (superclass_of f) (superinterfaces_of f) above) h.1)
    (forest_prepared g s t ints (superinterfaces_of f) sound (all_right (λ (x : Above). AtHome w t (Contains s.prepared) x.name) (superclass_of f) (superinterfaces_of f) above) h.2))
    (own, forest_prepared g s c rest more sound all.1 h.3)
  where
    file_same : (x y : File) (d : Class) → HasFile g.world d x → HasFile g.world d y → x ≡ y
    file_same x y d p q = ok_same x y (read_class g.world d) p q

pub lineage_prepared : (g : Setting) (s : State) (k : Kin) → IsSound g s → IsLineage g.world k → Contains s.prepared k.class → AllByRecursion (λ (a : Kin). Contains s.prepared a.class) (lineage k)
lineage_prepared g s k sound h own =
    let w = g.world in
    let P = λ (x : Kin). Contains s.prepared x.class in
    let is = sound.prepared k.class own in
    let same : is.kin ≡ k = one_lineage w k.class is.kin k is.lineage (lineage_is_derived w k h) in
    let above : AbovePrepared w s k.class (superclass_of k.file ++ superinterfaces_of k.file) = subst (λ (x : Kin). AbovePrepared w s k.class (supers x.file)) same is.above in
    once_kept P [] (postorder (alone k))
    (all_both P (postorder k.superclass ++ postorder k.interfaces) (k ∷ [])
    (all_both P (postorder k.superclass) (postorder k.interfaces)
    (forest_prepared g s k.class k.superclass (superclass_of k.file) sound (all_left (λ (x : Above). AtHome w k.class (Contains s.prepared) x.name) (superclass_of k.file) (superinterfaces_of k.file) above) h.above)
    (forest_prepared g s k.class k.interfaces (superinterfaces_of k.file) sound (all_right (λ (x : Above). AtHome w k.class (Contains s.prepared) x.name) (superclass_of k.file) (superinterfaces_of k.file) above) h.over))
    (own, tt))
