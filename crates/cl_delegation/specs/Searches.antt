-- What contracts see of a search and of what it ends in (JVMS SE 8, 5.3.2).
use Rattle.std.specs.Prelude.{
  ◌≡◌,
  ◌<◌,
  ℕ,
  List,
  [],
  ◌∷◌,
  ◌++◌,
  length,
  Option,
  Some,
  None,
  slice_get,
  IsSome,
}
use Rattle.cl_model.specs.Content.{Content}
use Rattle.cl_model.specs.Homes.{home}
use Rattle.cl_model.specs.Probes.{first_places, route}
use Rattle.cl_config.specs.Views.{Configured}
use Rattle.cl_config.specs.Loaders.{loaders_in}
use Rattle.cl_source.specs.Told.{IsTold}
use Rattle.cl_source.specs.Views.{Found}
use Rattle.cl_delegation.specs.Worlds.{world_of}

-- a search: what is asked, the probes so far that found nothing, in order, and the one that found
-- bytes (5.3.2)
pub record Searched : Type 0 where
  pub config : Configured
  pub loader : ℕ
  pub name : List ℕ
  pub absent : List Found
  pub found : Option Found

-- a search that has asked nobody yet (5.3.2)
abbrev pub begun_search : Configured → ℕ → List ℕ → Searched
begun_search c loader name =
    record { config = c; loader = loader; name = name; absent = []; found = None }

-- the loaders that the search asks, in order and each once, while each lacks the name (5.3.2)
abbrev pub route_of : Searched → List ℕ
route_of s = first_places [] (route (loaders_in s.config) s.loader s.name)

-- the next of a route, behind so many probes; none once bytes were found (5.3.2)
abbrev pub next_on : List ℕ → ℕ → Option Found → Option ℕ
next_on way n (Some p) = None
next_on way n None = slice_get way n

-- the loader that a search asks next (5.3.2)
abbrev pub next_of : Searched → Option ℕ
next_of s = next_on (route_of s) (length s.absent) s.found

-- one probe more: only absence leads on (5.3.2)
abbrev pub after_probe : Searched → Found → Option (List ℕ) → Searched
after_probe s p None = record s { absent = s.absent ++ p ∷ [] }
after_probe s p (Some bytes) = record s { found = Some p }

-- one probe more (5.3.2)
abbrev pub with_probe : Searched → Found → Searched
with_probe s p = after_probe s p p.bytes

-- the probe is of this loader and name, and what the source tells (5.3.2)
pub record IsProbeOf (content : Option Content) (sought : List ℕ) (asked : ℕ) (p : Found)
    : Type 0 where
  pub loader : p.loader ≡ asked
  pub name : p.name ≡ sought
  pub told : IsTold content p.loader p.name p.bytes

-- the probes are of the first loaders of the route, in order, and none found bytes (5.3.2)
abbrev pub AllLack : Option Content → List ℕ → List ℕ → List Found → Type 0
AllLack told name way [] = Unit {0}
AllLack told name [] (p ∷ ps) = ⊥
AllLack told name (l ∷ ls) (p ∷ ps) =
    IsProbeOf told name l p × (p.bytes ≡ None) × AllLack told name ls ps

-- the probe that found bytes is of the next loader of the route (5.3.2)
pub record IsFound (content : Option Content) (sought : List ℕ) (here : Option ℕ) (p : Found)
    : Type 0 where
  pub probe : IsProbeOf content sought p.loader p
  pub next : here ≡ Some p.loader
  pub bytes : IsSome p.bytes

-- bytes were not found, or at the next loader of the route (5.3.2)
abbrev pub IsEnd : Option Content → List ℕ → Option ℕ → Option Found → Type 0
IsEnd told name next None = Unit {0}
IsEnd told name next (Some p) = IsFound told name next p

-- the probes follow the route, as far as the first that found bytes (5.3.2)
pub record FollowsRoute (told : Option Content) (s : Searched) : Type 0 where
  pub loader : s.loader < length s.config.loaders
  pub absent : AllLack told s.name (route_of s) s.absent
  pub found : IsEnd told s.name (slice_get (route_of s) (length s.absent)) s.found

-- a home: the configuration and the loader that was asked, the one whose own content answered, the
-- bytes there, and the probes before (5.3.2)
pub record Located : Type 0 where
  pub config : Configured
  pub asked : ℕ
  pub definer : ℕ
  pub name : List ℕ
  pub bytes : List ℕ
  pub absent : List Found

-- a name that no loader has, of those that the asked one leads to, and the probes (5.3.2)
pub record Sought : Type 0 where
  pub config : Configured
  pub asked : ℕ
  pub name : List ℕ
  pub absent : List Found

-- the search rule leads to this loader, or to none, where a content is told (5.3.2)
abbrev pub LeadsTo : Option Content → Configured → ℕ → List ℕ → Option ℕ → Type 0
LeadsTo None c loader name definer = Unit {0}
LeadsTo (Some content) c loader name definer = home (world_of c content) loader name ≡ definer
