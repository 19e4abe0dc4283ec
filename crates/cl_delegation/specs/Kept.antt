-- What a search keeps.
use Rattle.std.specs.Prelude.{◌≡◌, ◌≤◌, ℕ, List, length, Option}
use Rattle.cl_model.specs.Content.{Content}
use Rattle.cl_delegation.specs.Searches.{Searched, route_of, FollowsRoute}

-- the probes follow the route, which is at hand, with room for one of each loader
pub record HasRouteAtHand (told : Option Content) (s : Searched) (route : List ℕ)
    (count capacity : ℕ)
    : Type 0 where
  pub follows : FollowsRoute told s
  pub way : route ≡ route_of s
  pub room : length route ≤ capacity
  pub len : count ≡ length s.absent
