-- The loaders and the schedule of a configuration and a script, as the linkage machine knows them
-- (JVMS SE 8, 5.3, 5.3.2).
use Rattle.std.specs.Prelude.{ℕ, List, [], ◌∷◌, map}
use Rattle.cl_model.specs.Homes as homes
use Rattle.cl_model.specs.Machine.{Scheduled}
use Rattle.cl_model.specs.Views.{request_of}
use Rattle.cl_model.specs.declared.request.Request.{Request}
use Rattle.cl_config.specs.declared.order.Order.{Order}
use Rattle.cl_config.specs.declared.order.Order.TheVariants.{ParentFirst, ChildFirst}
use Rattle.cl_config.specs.Views.{Configured, Loader, Scripted}

-- whether the parents are asked before the own content (5.3.2)
abbrev pub world_order : Order → homes.Order
world_order ParentFirst = homes.ParentFirst
world_order ChildFirst = homes.ChildFirst

-- a loader, above which its parents stand (5.3, 5.3.2)
abbrev pub world_loader : Loader → homes.WorldLoader
world_loader l =
    record {
      parents = l.parents;
      order = world_order l.order;
      imports = l.imports;
    }

-- the loaders, in order (5.3)
abbrev pub loaders_in : Configured → List homes.WorldLoader
loaders_in c = map world_loader c.loaders

-- the requests with their rounds, in order
abbrev pub schedule : List Request → List ℕ → List Scheduled
schedule [] ns = []
schedule (r ∷ rs) [] = []
schedule (r ∷ rs) (n ∷ ns) = record { request = request_of r; round = n } ∷ schedule rs ns

-- the same of a script
abbrev pub schedule_of : Scripted → List Scheduled
schedule_of s = schedule s.requests s.rounds_of
