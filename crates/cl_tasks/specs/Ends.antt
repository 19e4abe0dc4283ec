-- How a load ends otherwise than with its class (JVMS SE 8, 5.3.4, 5.3.5, 5.4.3).
use Rattle.std.specs.Prelude.{◌≡◌, ◌<◌, ℕ, List, Option}
use Rattle.std.specs.declared.alloc.Global.{Global}
use Rattle.std.specs.declared.sync.Arc.{Arc}
use Rattle.cl_model.specs.declared.need.Need as needs
use Rattle.cl_model.specs.declared.request.Request.{Request}
use Rattle.cl_model.specs.declared.request.Request.TheVariants as requests
use Rattle.cl_model.specs.declared.verdict.Verdict.TheVariants as verdicts
use Rattle.cl_model.specs.Content.{Content}
use Rattle.cl_model.specs.States.{AllMet, Refused}
use Rattle.cl_model.specs.Views.{need_of}
use Rattle.cl_hierarchy.specs.Paths.{Pathed}
use Rattle.cl_hierarchy.specs.declared.row.ClassRow.{ClassRow}
use Rattle.cl_findings.specs.declared.load.NextRecord.{NextRecord}
use Rattle.cl_findings.specs.declared.load.NextRecord.TheVariants as nexts
use Rattle.cl_findings.specs.declared.load.Obstacle.{Obstacle}
use Rattle.cl_findings.specs.declared.load.Target.{Target}
use Rattle.cl_findings.specs.declared.load.Target.TheVariants as targets
use Rattle.cl_findings.specs.Bases.{IsSpeltIn}
use Rattle.cl_findings.specs.Findings.{Answered, Resolves, Rests, grounded_answer}
use Rattle.cl_findings.specs.Loads.{IsFor, basis_at, next_need, next_needs, refused_at, verdict_at}
use Rattle.cl_registry.specs.Tables.{Shown, state_of}
use Rattle.cl_tasks.specs.Steps.{HoldsOn}
use Rattle.cl_tasks.specs.declared.ends.Aftermath.{Aftermath}
use Rattle.cl_tasks.specs.declared.ends.Aftermath.TheVariants as aftermaths
use Rattle.cl_tasks.specs.declared.stage.Entry as entries
use Rattle.cl_tasks.specs.declared.stage.Job.{Job}
use Rattle.cl_tasks.specs.declared.stage.Next.{Next}
use Rattle.cl_tasks.specs.declared.stage.Resolution.TheVariants as resolutions
use Rattle.cl_tasks.specs.declared.stage.Stage.TheVariants as stages
use Rattle.cl_tasks.specs.declared.turn.Turn.TheVariants as turn
use Rattle.cl_tasks.specs.Follows.{ResolvesReference}

-- what is loaded is the request's own class (5.3)
abbrev pub IsOwnTarget : {A : Type 0} → Target A → Type 0
IsOwnTarget targets.Own = Unit {0}
IsOwnTarget (targets.Reference d) = ⊥

-- the request is none to resolve (5.4.3)
abbrev pub IsNoResolution : Request → Type 0
IsNoResolution r = ResolvesReference r → ⊥

-- the request's class is looked for once more
pub record IsCheck {A : Type 0} (j : Job A) (r : Request) (loader : ℕ)
    (name : List ℕ) : Type 0 where
  pub own : IsOwnTarget j.target
  pub same : r ≡ j.request
  pub index : ℕ
  pub resolves : r ≡ requests.Resolve loader name index

-- the reference whose class a job loads is settled (5.4.3)
pub record IsForEntry {A : Type 0} (j : Job A) (e : entries.Entry A) : Type 0 where
  pub row : Arc (ClassRow A) Global
  pub target : j.target ≡ targets.Reference row
  pub class : e.d.value ≡ row.value
  pub number : e.q ≡ j.q
  pub same : e.request ≡ j.request
  pub of : Resolves e.request e.d.value.class.name e.index

-- what follows where a load does not end with its class (5.3.5, 5.4.3)
abbrev pub IsAftermath : {A : Type 0} → Job A → Aftermath A → Type 0
IsAftermath j aftermaths.Answer = IsOwnTarget j.target × IsNoResolution j.request
IsAftermath j (aftermaths.Check r loader name) = IsCheck j r loader name
IsAftermath j (aftermaths.Settle e) = IsForEntry j e

-- what a finding leads to, by what follows (5.3.5, 5.4.3)
abbrev pub ConcludesBy : {A : Type 0} → ℕ → Aftermath A → Answered → Next A → Type 0
ConcludesBy q aftermaths.Answer f n = n ≡ record { stage = stages.Done q; turn = turn.Post f }
ConcludesBy q (aftermaths.Check r loader name) f n =
    n ≡ record {
      stage = stages.Resolve (resolutions.Checking
          (record { q = q; request = r; finding = f }));
      turn = turn.Look loader name;
    }
ConcludesBy q (aftermaths.Settle e) f n = n ≡ record
    { stage = stages.Resolve (resolutions.Settling e); turn = turn.Settle f }

-- the record that comes next is refused, and what it needs before it stands (5.3.4)
pub record RefusedOn {A B : Type 0} (j : Job A) (n : NextRecord B) (x : Shown) : Type 0 where
  pub before : HoldsOn j x
  pub needs : AllMet (state_of x) (next_needs n)
  pub refused : Refused (state_of x) (next_need n)

-- an obstacle of a path is the end of the load of each request that the path is for (5.3.5)
abbrev pub EndRests : {A : Type 0} → Option Content → Pathed → Obstacle A → Type 0
EndRests {A} told p e =
    (r : Request) (t : Target A) → IsFor r t p → IsSpeltIn told t
    → Rests told (grounded_answer r (verdict_at t p e) (basis_at r t p e))

-- the refusal of the record that comes next on a path is that of each request that the path is for (5.3.4)
abbrev pub NextRests : {A : Type 0} → Option Content → Pathed → NextRecord A → Type 0
NextRests {A} told p n =
    (r : Request) (t : Target A) (need : needs.Need) → IsFor r t p → IsSpeltIn told t
    → need_of need ≡ next_need n
    → Rests told (grounded_answer r (verdicts.Linkage need) (refused_at r t p n))

-- the loader whose record comes next is one of so many: that of the class, or the one that was asked (5.3, 5.3.5)
abbrev pub NextWithin : {A : Type 0} → ℕ → NextRecord A → Type 0
NextWithin count (nexts.Define x) = x.draft.class.loader < count
NextWithin count (nexts.Initiate h) = h.value.asked < count
