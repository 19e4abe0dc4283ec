-- Settings and histories of the examples of requests that are served one after another (JVMS SE 8, 5.3 to 5.4.3).
use Rattle.std.specs.Prelude.{ℕ, List, [], ◌∷◌}
use Rattle.cl_model.specs.States.{start, OutOfMemory}
use Rattle.cl_model.specs.Machine.{Setting, Scheduled, Step, Post}
use Rattle.cl_model.specs.Service.{AllServed}
use Rattle.cl_model.specs.Examples.{app, plug, load_of}
use Rattle.cl_model.specs.ExampleReferences.{service}
use Rattle.cl_model.specs.ExampleRuns.{serving}

-- a request of the second round
abbrev pub of_second : Scheduled
of_second = record { request = load_of app "p/T"; round = 1 }

-- a request of the fourth round
abbrev pub of_fourth : Scheduled
of_fourth = record { request = load_of plug "p/T"; round = 3 }

-- these two, in five rounds, of which the others are empty
abbrev pub sparse : Setting
sparse = record { world = service; script = of_second ∷ of_fourth ∷ []; rounds = 5 }

-- these steps serve the two
abbrev pub BothServed : List Step → Type 0
BothServed es = AllServed sparse 0 start sparse.script es

-- memory ran out for the request of this number
abbrev pub failed_post : ℕ → Step
failed_post q = Post q OutOfMemory

-- these steps serve the script of the example of a run
abbrev pub RunServed : List Step → Type 0
RunServed es = AllServed serving 0 start serving.script es
