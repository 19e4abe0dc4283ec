-- Settings and steps of the examples of answers and runs (JVMS SE 8, 5.3.4 to 5.4.3).
use Rattle.std.specs.Prelude.{ℕ, List, [], ◌∷◌, ◌++◌, codes}
use Rattle.cl_classfile.specs.Files.{File, ToMethod}
use Rattle.cl_classfile.specs.Flags as flag
use Rattle.cl_model.specs.Homes.{World}
use Rattle.cl_model.specs.States.{State, start, Verdict, IsMethod, IsLinked, BadEntry, Linkage, Said, OutOfMemory}
use Rattle.cl_model.specs.Plans.{Request}
use Rattle.cl_model.specs.Machine.{Setting, Step, Define, Initiate, Constrain, Settle, Prepare, Post, NextRound, AnswersPlan, state_after}
use Rattle.cl_model.specs.Examples.{boot, app, plug, kid, object, the_root, in_boot, in_app, in_plug, in_kid, own, same_t, load_of, resolve_of, link_of, root, under, taking_t, a_class, with_methods, referring_file, world_with_files}
use Rattle.cl_model.specs.ExampleReferences.{svc, service, three_users}

-- a setting of one round without requests
abbrev pub over : World → Setting
over w = record { world = w; script = []; rounds = 1 }

-- what stands after these steps
abbrev pub standing_after : List Step → State
standing_after steps = state_after start steps

-- after these steps over this world a request is answered so (5.3 to 5.4.3)
abbrev pub AnswerIs : World → List Step → Request → Verdict → Type 0
AnswerIs w steps q v = AnswersPlan (over w) (standing_after steps) q v

-- Use of this loader resolves its reference to the method of Svc (5.4.3.3)
abbrev pub of_use : ℕ → Request
of_use loader = resolve_of loader "p/Use" 1

-- the refusal of its equality (5.3.4)
abbrev pub t_refused : Verdict
t_refused = Linkage (same_t app plug)

-- the refusal of kid's own record of T (5.3, 5.3.4)
abbrev pub kid_refused : Verdict
kid_refused = Linkage (own kid "p/T")

-- what stands before a reference of Use in plug is resolved, where T is defined in app and in plug (5.3, 5.3.5)
abbrev pub both_defined : List Step
both_defined =
    Define the_root ∷ Initiate object boot app ∷ Define (in_app "p/T")
    ∷ Initiate object boot plug ∷ Define (in_plug "p/T") ∷ Define (in_plug "p/Use")
    ∷ Define (in_app "p/Svc") ∷ Initiate (codes "p/Svc") app plug ∷ []

-- and so it stands (5.3, 5.3.5)
abbrev pub both_stand : State
both_stand = standing_after both_defined

-- what stands after that reference is resolved and T is defined in app (5.3.4, 5.4.3)
abbrev pub constrained : List Step
constrained =
    Define the_root ∷ Initiate object boot plug ∷ Define (in_plug "p/Use")
    ∷ Initiate object boot app ∷ Define (in_app "p/Svc") ∷ Initiate (codes "p/Svc") app plug
    ∷ Constrain (codes "p/T") app plug ∷ Define (in_app "p/T") ∷ []

-- what stands after the reference of one of two users is resolved (5.3.4)
abbrev pub used : List Step
used =
    Define the_root ∷ Initiate object boot plug ∷ Define (in_plug "p/Use")
    ∷ Initiate object boot app ∷ Define (in_app "p/Svc") ∷ Initiate (codes "p/Svc") app plug
    ∷ Constrain (codes "p/T") app plug ∷ Initiate object boot kid ∷ Define (in_kid "p/Use")
    ∷ Initiate (codes "p/Svc") app kid ∷ []

-- what stands after those of both are resolved and T is defined in one of them (5.3.4)
abbrev pub across : List Step
across = used ++ Constrain (codes "p/T") app kid ∷ Define (in_plug "p/T") ∷ []

-- what stands where T is defined in both before the second is resolved (5.3.4)
abbrev pub both_users_defined : List Step
both_users_defined = used ++ Define (in_plug "p/T") ∷ Define (in_kid "p/T") ∷ []

-- three requests in the first two of three rounds
abbrev pub in_rounds : Setting
in_rounds = record {
  world = service;
  script = record { request = resolve_of plug "p/Use" 1; round = 0 }
      ∷ record { request = load_of app "p/T"; round = 1 }
      ∷ record { request = load_of plug "p/T"; round = 1 } ∷ [];
  rounds = 3;
}

-- the requests of the first two rounds are answered, and the third may begin
abbrev pub two_rounds : List Step
two_rounds = Post 0 OutOfMemory ∷ NextRound ∷ Post 1 OutOfMemory ∷ Post 2 OutOfMemory ∷ []

-- ---- a run

-- a class under Svc, which overrides its method and names it (4.6, 5.4.3)
abbrev pub user : File
user = with_methods ((flag.public, taking_t "m") ∷ [])
    (referring_file (ToMethod (a_class "p/Svc") (taking_t "m") ∷ []) (under "p/Use" "p/Svc"))

-- Svc in app, and in plug Use under it (5.4.2, 5.4.3.3)
abbrev pub overridden_service : World
overridden_service = world_with_files ((boot, root) ∷ (app, svc) ∷ (plug, user) ∷ [])

-- Use resolves that method in the first round and is linked in the second, where an entry that is no reference is resolved too
abbrev pub serving : Setting
serving = record {
  world = overridden_service;
  script = record { request = resolve_of plug "p/Use" 1; round = 0 }
      ∷ record { request = link_of plug "p/Use"; round = 1 }
      ∷ record { request = resolve_of plug "p/Use" 9; round = 1 } ∷ [];
  rounds = 2;
}

-- the steps that load Use (5.3.5)
abbrev pub loading : List Step
loading = Define the_root ∷ Initiate object boot app ∷ Define (in_app "p/Svc")
    ∷ Initiate (codes "p/Svc") app plug ∷ Define (in_plug "p/Use") ∷ []

-- the method that its reference is resolved to (5.4.3.3)
abbrev pub of_svc : Verdict
of_svc = IsMethod (in_app "p/Svc") (taking_t "m")

-- the steps that resolve the reference (5.4.3)
abbrev pub resolving : List Step
resolving = Constrain (codes "p/T") app plug ∷ Settle (in_plug "p/Use") 1 of_svc
    ∷ Post 0 (Said of_svc) ∷ []

-- the steps that link Use (5.4)
abbrev pub linking : List Step
linking = NextRound ∷ Prepare the_root ∷ Prepare (in_app "p/Svc") ∷ Prepare (in_plug "p/Use")
    ∷ Post 1 (Said (IsLinked (in_plug "p/Use"))) ∷ Post 2 (Said BadEntry) ∷ []

-- what stands before the reference is settled (5.3.4)
abbrev pub unsettled : State
unsettled = standing_after (loading ++ Constrain (codes "p/T") app plug ∷ [])

-- what stands before Use is prepared, in the second round (5.4)
abbrev pub unprepared : State
unprepared = standing_after (loading ++ resolving ++ NextRound ∷ Prepare the_root
    ∷ Prepare (in_app "p/Svc") ∷ [])

-- what stands before the reference is resolved, with the supertypes of Use prepared (5.4)
abbrev pub unconstrained : State
unconstrained = standing_after (loading ++ Prepare the_root ∷ Prepare (in_app "p/Svc") ∷ [])

-- what stands at the end
abbrev pub end_state : State
end_state = standing_after (loading ++ resolving ++ linking)

-- a class of kid's own is asked for an entry of its pool (5.4.3)
abbrev pub resolved_in_kid : Setting
resolved_in_kid = record {
  world = three_users;
  script = record
      { request = resolve_of kid "p/T" 1; round = 0 } ∷ [];
  rounds = 1;
}

-- Svc in app, and in plug a class under it which overrides its method and names nothing (5.4.2)
abbrev pub overridden_alone : World
overridden_alone = world_with_files ((boot, root) ∷ (app, svc)
    ∷ (plug, with_methods ((flag.public, taking_t "m") ∷ []) (under "p/Use" "p/Svc")) ∷ [])

-- the steps before a class under p/H, which is not accessible to it (5.3.5, step 3)
abbrev pub below_hidden : List Step
below_hidden = Define the_root ∷ Initiate object boot app ∷ Define (in_app "p/H")
    ∷ Initiate (codes "p/H") app plug ∷ []

-- T is defined in app, and is to be the same in kid (5.3.4)
abbrev pub joined_with_kid : List Step
joined_with_kid = Define the_root ∷ Initiate object boot app ∷ Define (in_app "p/T")
    ∷ Constrain (codes "p/T") app kid ∷ []

-- the root stands in plug (5.3)
abbrev pub root_in_plug : State
root_in_plug = standing_after (Define the_root ∷ Initiate object boot plug ∷ [])

-- the root stands in app (5.3)
abbrev pub root_in_app : State
root_in_app = standing_after (Define the_root ∷ Initiate object boot app ∷ [])

-- R stands in app, its superclass is prepared, and its superinterface is not (5.4.2)
abbrev pub interface_unprepared : State
interface_unprepared = standing_after (Define the_root ∷ Initiate object boot app
    ∷ Define (in_boot "b/I") ∷ Initiate (codes "b/I") boot app ∷ Define (in_app "p/R")
    ∷ Prepare the_root ∷ [])
