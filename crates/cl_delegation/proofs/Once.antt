-- No search asks a loader twice, or one that there is not.
use Rattle.std.proofs.Common.{◌≡◌, ℕ, zero, suc, ◌<◌, true, List, [], ◌∷◌, length, Some, arith}
use Rattle.std.specs.Prelude.{slice_get}
use Rattle.std.specs.List.{AllByRecursion}
use Rattle.std.proofs.lemmas.Bool.Decides.{nat_tests}
use Rattle.std.proofs.lemmas.List.{length-map}
use Rattle.cl_model.specs.Homes.{is_loader}
use Rattle.cl_model.proofs.Probes.{probed_once, probes_are_loaders}
use Rattle.cl_config.specs.Views.{Configured}
use Rattle.cl_config.specs.Loaders.{world_loader, loaders_in}
use Rattle.cl_delegation.specs.Worlds.{world_of}
use Rattle.cl_delegation.specs.Searches.{Searched, route_of}
use Rattle.cl_delegation.specs.Routes.{AsksOnce, AsksFew}
use Rattle.cl_delegation.proofs.Few.{few_below}

known_below : (c : Configured) (n : ℕ) → is_loader (world_of c []) n ≡ true → n < length c.loaders
known_below c n h = let lt : n < length (loaders_in c) = grind (arith, nat_tests) in omega (arith, lt, length-map c.loaders world_loader)

all_known : (c : Configured) (ns : List ℕ) → AllByRecursion (λ n. is_loader (world_of c []) n ≡ true) ns → AllByRecursion (λ n. n < length c.loaders) ns
all_known c [] h = tt
all_known c (n ∷ ns) h = (known_below c n h.0, all_known c ns h.1)

all_within : (s : Searched) → AllByRecursion (λ n. n < length s.config.loaders) (route_of s)
all_within s = all_known s.config (route_of s) (probes_are_loaders (world_of s.config []) s.loader s.name)

pub asks_once : AsksOnce
asks_once s = probed_once (world_of s.config []) s.loader s.name

pub asks_few : AsksFew
asks_few s = few_below (length s.config.loaders) (route_of s) (asks_once s) (all_within s)

at_below : (n : ℕ) (ms : List ℕ) (k m : ℕ) → AllByRecursion (λ m. m < n) ms → slice_get ms k ≡ Some m → m < n
at_below n [] k m t is = absurd cc
at_below n (x ∷ ms) zero m t is = let same : x ≡ m = cc in omega (arith, same, t.0)
at_below n (x ∷ ms) (suc k) m t is = at_below n ms k m t.1 is

-- whoever is asked is a loader of the configuration
pub route_within : (s : Searched) (k m : ℕ) → slice_get (route_of s) k ≡ Some m → m < length s.config.loaders
route_within s k m is = at_below (length s.config.loaders) (route_of s) k m (all_within s) is
