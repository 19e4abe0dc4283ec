-- What a load does on a reply.
use Rattle.std.proofs.Common.{◌≡◌, ◌∙◌, ℕ, List, [], ◌∷◌, ◌++◌, Option, Some, None, refl, sym, ap, subst}
use Rattle.std.proofs.Common.{Global}
use Rattle.std.specs.Prelude.{map}
use Rattle.std.specs.declared.sync.Arc.{Arc}
use Rattle.cl_model.specs.declared.request.Request.{Request}
use Rattle.cl_config.specs.Views.{Configured}
use Rattle.cl_delegation.specs.declared.search.Home.{Home}
use Rattle.cl_delegation.specs.Searches.{Located}
use Rattle.cl_hierarchy.specs.declared.row.ClassRow.{ClassRow}
use Rattle.cl_hierarchy.specs.Frames.{Framed, frame_of}
use Rattle.cl_hierarchy.specs.Paths.{Pathed, at_loader, at_name, frames_of}
use Rattle.cl_model.specs.Frames.{Frame}
use Rattle.cl_findings.specs.declared.load.Target.{Target}
use Rattle.cl_findings.specs.declared.load.Target.TheVariants as targets
use Rattle.cl_findings.specs.Findings.{loader_of, name_of}
use Rattle.cl_findings.specs.Loads.{IsFor}
use Rattle.cl_registry.specs.Tables.{Shown}
use Rattle.cl_tasks.specs.Ends.{IsOwnTarget}
use Rattle.cl_tasks.specs.Facts.{AllHave, AreSo, Holds}
use Rattle.cl_tasks.specs.Stages.{JobBegins, IsHoming, loading_at, target_facts, task_at}
use Rattle.cl_tasks.specs.Steps.{HoldsOn, LooksBy}
use Rattle.cl_tasks.specs.Tasks.{Fact, Tasked}
use Rattle.cl_tasks.specs.Turns.{AnswersOwn, Asks, GoesOnWith}
use Rattle.cl_tasks.specs.Waits as waits
use Rattle.cl_tasks.specs.declared.stage.Job.{Job}
use Rattle.cl_tasks.specs.declared.stage.Load.TheVariants as loads
use Rattle.cl_tasks.specs.declared.stage.Stage.{Stage}
use Rattle.cl_tasks.specs.declared.turn.Reply.TheVariants as reply
use Rattle.cl_tasks.specs.declared.turn.Turn.{Turn}
use Rattle.cl_tasks.specs.declared.turn.Turn.TheVariants as turn
use Rattle.cl_model.proofs.Bind.{some_same}

-- ---- a request's own class

-- nothing was told where the request's own class is loaded
pub own_of : {A : Type 0} (r : Request) (t : Target A) → target_facts r t ≡ [] → IsOwnTarget t
own_of r targets.Own e = tt
own_of r (targets.Reference d) e = absurd cc

pub none_framed : (xs : List Framed) → map frame_of xs ≡ [] → xs ≡ []
none_framed [] e = refl
none_framed (x ∷ xs) e = absurd cc

-- what is looked for first is the request's
own_looked : {A : Type 0} (r : Request) (t : Target A) (p : Pathed) → target_facts r t ≡ [] → p.frames ≡ [] → IsFor r t p → (at_loader p ≡ loader_of r) × (at_name p ≡ name_of r)
own_looked r targets.Own p own alone for =
    (ap (λ (fs : List Framed). at_loader (record p { frames = fs })) alone ∙ sym for.loader, ap (λ (fs : List Framed). at_name (record p { frames = fs })) alone ∙ sym for.name)
own_looked r (targets.Reference d) p own alone for = absurd cc

looks_at : {l k : ℕ} {n m : List ℕ} → waits.Looking l n ≡ waits.Looking k m → (l ≡ k) × (n ≡ m)
looks_at e = (cc, cc)

-- ---- the first turn

pub begins_own : {A : Type 0} (c : Configured) (j : Job A) (s : Stage A) (t : Turn A) → JobBegins j → IsFor j.request j.target j.path → LooksBy j s t → Asks (task_at c s) t → AnswersOwn (loading_at c (loads.Fresh j)) (task_at c s) reply.Start t
begins_own {A} c j s (turn.Look l n) first for looks asks =
    let own = own_looked j.request j.target j.path first.own first.alone for in
    let at = looks_at (sym (subst (λ (u : Stage _). (task_at c u).waits ≡ waits.Looking l n) looks asks)) in
    subst (λ (u : Stage A). AnswersOwn {A = A} (loading_at c (loads.Fresh j)) (task_at c u) reply.Start (turn.Look l n)) (sym looks) (
      ap (λ (fs : List Framed). map frame_of fs) first.alone,
      first.own,
      λ r e. let same = some_same _ _ e in (at.0 ∙ own.0 ∙ ap loader_of same, at.1 ∙ own.1 ∙ ap name_of same),
    )
begins_own c j s (turn.Post f) first for looks asks = looks
begins_own c j s other first for looks asks = absurd looks

-- ---- a look

-- the request's own class was looked for, and is recorded
pub looked_own : {A : Type 0} (c : Configured) (j : Job A) (row : Arc (ClassRow A) Global) (new : Tasked) (t : Turn A) → (IsOwnTarget j.target → j.path.frames ≡ [] → GoesOnWith j.request row.value.class new t)
    → AnswersOwn (loading_at c (loads.Looking j)) new (reply.Looked (Some row)) t
looked_own c j row new t goes =
    λ r e look frames facts. subst (λ (q : Request). GoesOnWith q row.value.class new t) (some_same _ _ e) (goes (own_of j.request j.target facts) (none_framed j.path.frames frames))

-- its home was: that is another loader
pub home_own : {A : Type 0} (c : Configured) (j : Job A) (h : Located) (row : Arc (ClassRow A) Global) (new : Tasked) (t : Turn A) → IsFor j.request j.target j.path → IsHoming j h → AnswersOwn (loading_at c (loads.Homing j h)) new (reply.Looked (Some row)) t
home_own c j h row new t for homing =
    λ r e look frames facts.
    let own = own_looked j.request j.target j.path facts (none_framed j.path.frames frames) for in
    absurd (homing.other ((looks_at look).0 ∙ ap loader_of (sym (some_same _ _ e)) ∙ sym own.0))

pub home_any : {A : Type 0} (c : Configured) (j : Job A) (h : Located) (o : Option (Arc (ClassRow A) Global)) (new : Tasked) (t : Turn A) → IsFor j.request j.target j.path → IsHoming j h → AnswersOwn (loading_at c (loads.Homing j h)) new (reply.Looked o) t
home_any c j h None new t for homing = tt
home_any c j h (Some row) new t for homing = home_own c j h row new t for homing

-- ---- a record that the task asked for

rest_none : {f g : Fact} {fs : List Fact} → f ∷ fs ≡ g ∷ [] → fs ≡ []
rest_none e = cc

-- the loader that was asked was recorded
pub initiated_own : {A : Type 0} (c : Configured) (j : Job A) (h : Arc (Home A) Global) (row : Arc (ClassRow A) Global) (new : Tasked) (t : Turn A) → (IsOwnTarget j.target → j.path.frames ≡ [] → GoesOnWith j.request row.value.class new t)
    → AnswersOwn (loading_at c (loads.Initiating j h)) new (reply.Initiated row) t
initiated_own c j h row new t goes =
    λ r e frames one. subst (λ (q : Request). GoesOnWith q row.value.class new t) (some_same _ _ e) (goes (own_of j.request j.target (rest_none one.1)) (none_framed j.path.frames frames))

ends_in : (xs : List Frame) (x : Frame) → xs ++ x ∷ [] ≡ [] → ⊥
ends_in [] x e = cc
ends_in (y ∷ ys) x e = cc

alone : (xs : List Frame) (x y : Frame) → xs ++ x ∷ [] ≡ y ∷ [] → (xs ≡ []) × (x ≡ y)
alone [] x y e = (refl, cc)
alone (z ∷ zs) x y e = absurd (ends_in zs x cc)

-- the home was, which is the loader that was asked where the frame's loader is the request's
pub defined_own : {A : Type 0} (c : Configured) (j : Job A) (w : Framed) (row : Arc (ClassRow A) Global) (new : Tasked) (t : Turn A) → IsFor j.request j.target j.path → w.draft.class.loader ≡ w.draft.home.definer
    → (IsOwnTarget j.target → j.path.frames ≡ [] → w.draft.home.definer ≡ at_loader j.path → GoesOnWith j.request row.value.class new t) → AnswersOwn (loading_at c (loads.Defining j w)) new (reply.Defined row) t
defined_own c j w row new t for placed goes =
    λ r f e frames loader facts.
    let last = alone (frames_of j.path) (frame_of w) f frames in
    let none = none_framed j.path.frames last.0 in
    let own = own_looked j.request j.target j.path facts none for in
    let at : w.draft.home.definer ≡ at_loader j.path =
    sym placed ∙ ap (λ (k : Frame). k.class.loader) last.1 ∙ loader ∙ ap loader_of (sym (some_same _ _ e)) ∙ sym own.0 in
    subst (λ (q : Request). GoesOnWith q row.value.class new t) (some_same _ _ e) (goes (own_of j.request j.target facts) none at)

-- ---- what holds

pub holds_job : {A : Type 0} (x : Shown) (j : Job A) (t : Tasked) → t.frames ≡ frames_of j.path → t.facts ≡ target_facts j.request j.target → Holds x t → HoldsOn j x
holds_job x j t frames facts h = record {
  frames = subst (λ (fs : List Frame). AllHave x fs) frames h.frames;
  facts = subst (λ (fs : List Fact). AreSo x fs) facts h.facts;
}
