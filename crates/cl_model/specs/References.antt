-- Resolutions past the load of a reference's class, and plans whose request's class is recorded (JVMS SE 8, 5.4, 5.4.3).
use Rattle.std.specs.Prelude.{◌≡◌, ℕ, List, [], ◌++◌, Ok}
use Rattle.cl_model.specs.Homes.{World}
use Rattle.cl_model.specs.declared.class.Class.{Class}
use Rattle.cl_model.specs.States.{State, Need, Verdict, AllMet}
use Rattle.cl_model.specs.Works.{Made}
use Rattle.cl_model.specs.Plans.{Request, Plan}
use Rattle.cl_model.specs.Machine.{IsPlan, IsPastLoad, IsResolution}

-- an end without needs
abbrev pub ended_with : Verdict → Made Verdict
ended_with v = record { needs = []; asked = []; ends = Ok v }

-- an entry's resolution goes through: its first needs are met, the others are those of m, and it ends as m does (5.4.3)
pub record GoesThrough (w : World) (s : State) (d : Class) (i : ℕ) (m : Made Verdict) : Type 0 where
  pub made : Made Verdict
  pub resolution : IsResolution w d i made
  pub before : List Need
  pub met : AllMet s before
  pub needs : made.needs ≡ before ++ m.needs
  pub ends : made.ends ≡ m.ends

-- a request's plan reaches the class c, all needs of its load and the first that follow are met; these are the others,
-- and so it ends (5.3 to 5.4.3)
pub record PlanGoesOn (w : World) (s : State) (r : Request) (c : Class) (needs : List Need)
    (v : Verdict) : Type 0 where
  pub plan : Plan
  pub planned : IsPlan w r plan
  pub past : IsPastLoad s plan c
  pub before : List Need
  pub met : AllMet s before
  pub more : plan.more ≡ before ++ needs
  pub ends : plan.ends ≡ v
