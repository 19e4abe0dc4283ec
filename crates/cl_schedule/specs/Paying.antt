-- How many calls a request has left by its plan, while requests take turns, and how often it was taken (JVMS SE 8, 5.3 to 5.4.3).
use Rattle.std.specs.Prelude.{◌≡◌, ◌+◌, ◌≤◌, ℕ, Option, Some}
use Rattle.cl_config.specs.Views.{Configured}
use Rattle.cl_delegation.specs.Worlds.{world_of}
use Rattle.cl_model.specs.declared.request.Request.{Request}
use Rattle.cl_model.specs.Content.{Content}
use Rattle.cl_model.specs.Homes.{World}
use Rattle.cl_model.specs.States.{State}
use Rattle.cl_model.specs.Machine.{IsPlan}
use Rattle.cl_model.specs.Plans as plans
use Rattle.cl_model.specs.Plans.{Plan, cost}
use Rattle.cl_model.specs.Views.{request_of}
use Rattle.cl_registry.specs.Tables.{Shown, state_of}
use Rattle.cl_tasks.specs.Calls.{calls_in}
use Rattle.cl_tasks.specs.Follows.{made_by}
use Rattle.cl_tasks.specs.Tasks.{Tasked}
use Rattle.cl_schedule.specs.Takings.{Measure}

-- ---- a request that was begun

-- where a content is told, this is the plan of a request in the world that it is of (5.3 to 5.4.3)
pub record IsPlanIn (told : Option Content) (c : Configured) (r : plans.Request) (w : World)
    (p : Plan) : Type 0 where
  pub content : Content
  pub told_so : told ≡ Some content
  pub world : w ≡ world_of c content
  pub planned : IsPlan w r p

-- by this plan, a task has no more calls left in a state than so many (5.3 to 5.4.3)
abbrev pub HasFew : World → Plan → State → ℕ → Tasked → Type 0
HasFew w p s n t = calls_in t.calls w p s ≤ n

-- a request that begins has no more calls left than it costs (5.3 to 5.4.3)
abbrev pub StartsWithin : Option Content → Shown → Request → Tasked → Type 0
StartsWithin told x r t = (w : World) (p : Plan) → IsPlanIn told x.config (request_of r) w p
    → HasFew w p (state_of x) (cost w p) t

-- the call that a task waited for and those that it has left later are no more than it had left (5.3 to 5.4.3)
abbrev pub PaysFor : Option Content → Shown → Request → Tasked → Tasked → Type 0
PaysFor told x r old new =
    (w : World) (p : Plan) → IsPlanIn told x.config (request_of r) w p
    → made_by old.waits + calls_in new.calls w p (state_of x) ≤ calls_in old.calls w p (state_of x)

-- ---- the measure

-- a request is taken at most as often as its plan costs, and then answered (5.3 to 5.4.3)
abbrev pub by_plan : {A : Type 0} → Option Content → Configured → Measure A
by_plan told c = record {
  Known = World × Plan;
  Fits = λ s r k. IsPlanIn told c r k.0 k.1;
  all = λ k. cost k.0 k.1;
  Within = λ s r k n seat. HasFew k.0 k.1 s n seat.task;
  Says = λ k a. Unit {0};
}
