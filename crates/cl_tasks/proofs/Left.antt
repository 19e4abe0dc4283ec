-- That the post is always left of a task, and that no more is where more is recorded.
use Rattle.std.proofs.Common.{◌≤◌, ◌+◌, ◌*◌, ℕ, Bool, true, false, arith}
use Rattle.cl_config.specs.Views.{Configured}
use Rattle.cl_hierarchy.specs.Paths.{at_loader, frames_of}
use Rattle.cl_tasks.specs.Calls.{Calls, away_calls, equalities_in, hand_calls, if_so, open_calls, own_homes}
use Rattle.cl_tasks.specs.Follows.{AreLeft}
use Rattle.cl_tasks.specs.Stages.{linking_at, loading_at, past_calls, resolving_at, task_at}
use Rattle.cl_tasks.specs.declared.stage.Job.{Job}
use Rattle.cl_tasks.specs.declared.stage.Link.{Link}
use Rattle.cl_tasks.specs.declared.stage.Link.TheVariants as links
use Rattle.cl_tasks.specs.declared.stage.Load.{Load}
use Rattle.cl_tasks.specs.declared.stage.Load.TheVariants as loads
use Rattle.cl_tasks.specs.declared.stage.Resolution.{Resolution}
use Rattle.cl_tasks.specs.declared.stage.Resolution.TheVariants as resolutions
use Rattle.cl_tasks.specs.declared.stage.Stage.{Stage}
use Rattle.cl_tasks.specs.declared.stage.Stage.TheVariants as stages
use Rattle.cl_tasks.proofs.Lead.{past_some}
use Rattle.cl_tasks.proofs.Opened.{open_lessens}

so_lessens : (b : Bool) (m n : ℕ) → m ≤ n → if_so b m ≤ if_so b n
so_lessens true m n h = h
so_lessens false m n h = omega arith

pub are_left : (n : Calls) → 1 ≤ n.more → AreLeft n
are_left n some = record {
  post = λ w p s. above (if_so n.opens (open_calls w p s n.absent n.hand)) (n.homes * own_homes w p) (n.equalities * equalities_in p) n.more some;
  fewer = λ w p s t h.
      let less = so_lessens n.opens (open_calls w p t n.absent n.hand) (open_calls w p s n.absent n.hand) (open_lessens w p s t n.absent n.hand h) in
      below (if_so n.opens (open_calls w p t n.absent n.hand)) (if_so n.opens (open_calls w p s n.absent n.hand)) (n.homes * own_homes w p + n.equalities * equalities_in p + n.more) less;
}
  where
    above : (a b c d : ℕ) → 1 ≤ d → 1 ≤ a + (b + c + d)
    above a b c d h = omega arith

    below : (a b c : ℕ) → a ≤ b → a + c ≤ b + c
    below a b c h = omega arith

job_left : {A : Type 0} (j : Job A) (more : ℕ) → 1 ≤ (hand_calls j.path.loader (frames_of j.path) + more) + (past_calls j.request j.target).more
job_left j more = let some = past_some j.request j.target in omega arith

load_left : {A : Type 0} (c : Configured) (l : Load A) → AreLeft (loading_at c l).calls
load_left c (loads.Fresh j) = are_left (loading_at c (loads.Fresh j)).calls (job_left j 1)
load_left c (loads.Looking j) = are_left (loading_at c (loads.Looking j)).calls (job_left j 1)
load_left c (loads.Searching j s) = are_left (loading_at c (loads.Searching j s)).calls (job_left j 0)
load_left c (loads.Homing j h) = are_left (loading_at c (loads.Homing j h)).calls (job_left j 2)
load_left c (loads.Defining j x) = are_left (loading_at c (loads.Defining j x)).calls (job_left j (1 + away_calls (at_loader j.path) x.draft.class.loader))
load_left c (loads.Initiating j h) = are_left (loading_at c (loads.Initiating j h)).calls (job_left j 1)

resolution_left : {A : Type 0} (c : Configured) (r : Resolution A) → AreLeft (resolving_at c r).calls
resolution_left c (resolutions.Checking f) = are_left (resolving_at c (resolutions.Checking f)).calls (omega arith)
resolution_left c (resolutions.LookingReference e) = are_left (resolving_at c (resolutions.LookingReference e)).calls (omega arith)
resolution_left c (resolutions.TracingOwn e k) = are_left (resolving_at c (resolutions.TracingOwn e k)).calls (omega arith)
resolution_left c (resolutions.TracingNamed e l k) = are_left (resolving_at c (resolutions.TracingNamed e l k)).calls (omega arith)
resolution_left c (resolutions.Imposing m k) = are_left (resolving_at c (resolutions.Imposing m k)).calls (omega arith)
resolution_left c (resolutions.Settling e) = are_left (resolving_at c (resolutions.Settling e)).calls (omega arith)

link_left : {A : Type 0} (c : Configured) (l : Link A) → AreLeft (linking_at c l).calls
link_left c (links.LookingPrepared g) = are_left (linking_at c (links.LookingPrepared g)).calls (omega arith)
link_left c (links.TracingWhole g) = are_left (linking_at c (links.TracingWhole g)).calls (omega arith)
link_left c (links.Counting g l) = are_left (linking_at c (links.Counting g l)).calls (omega arith)
link_left c (links.Tracing k) = are_left (linking_at c (links.Tracing k)).calls (omega arith)
link_left c (links.Imposing k e i) = are_left (linking_at c (links.Imposing k e i)).calls (omega arith)
link_left c (links.Marking k e) = are_left (linking_at c (links.Marking k e)).calls (omega arith)

pub stage_left : {A : Type 0} (c : Configured) (s : Stage A) → AreLeft (task_at c s).calls
stage_left c (stages.Load l) = load_left c l
stage_left c (stages.Resolve r) = resolution_left c r
stage_left c (stages.Link l) = link_left c l
stage_left {A = A} c (stages.Done q) = are_left (task_at {A = A} c (stages.Done q)).calls (omega arith)
