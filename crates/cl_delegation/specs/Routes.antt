-- No search probes a loader twice, or more loaders than there are (JVMS SE 8, 5.3.2).
use Rattle.std.specs.Prelude.{◌≤◌, length}
use Rattle.cl_model.specs.Probes.{EachOnce}
use Rattle.cl_delegation.specs.Searches.{Searched, route_of}

-- no loader is asked twice
abbrev pub AsksOnce : Type 0
AsksOnce = (s : Searched) → EachOnce (route_of s)

-- no more loaders are asked than there are
abbrev pub AsksFew : Type 0
AsksFew = (s : Searched) → length (route_of s) ≤ length s.config.loaders
