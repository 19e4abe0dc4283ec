-- The constraints of one name, kept as lists; what they mean is of JVMS SE 8, 5.3.4.
use Rattle.std.specs.Prelude.{◌≡◌, ℕ, Bool, ◌==◌, ◌&&◌, not, List, Option, Some, if◌then◌else◌}
use Rattle.std.specs.List.{AllByRecursion, fold, list_any}
use Rattle.cl_constraints.specs.declared.plain.Pair.{Pair}
use Rattle.cl_constraints.specs.declared.plain.Placed.{Placed}
use Rattle.cl_constraints.specs.Records.{home_by}

-- all of one name: who recorded it, and the pairs of loaders, in the order in which they were
-- joined (5.3.4)
pub record Paired : Type 0 where
  pub records : List Placed
  pub pairs : List Pair

-- who defined the class that a loader records (5.3)
abbrev pub home_at : List Placed → ℕ → Option ℕ
home_at records loader = home_by (λ r. r.loader) (λ r. r.home) records loader

-- where a search that stands at a loader goes by a pair
abbrev pub next_by : ℕ → Pair → ℕ
next_by here p = if p.one == here then p.other else here

-- where a search from a loader ends, that goes along all pairs in order
abbrev pub end_in : List Pair → ℕ → ℕ
end_in pairs loader = fold next_by loader pairs

-- two loaders are joined: the searches from both end at one loader (5.3.4)
abbrev pub ArePaired : List Pair → ℕ → ℕ → Type 0
ArePaired pairs a b = end_in pairs a ≡ end_in pairs b

-- a record is its loader's, and keeps where the search from its loader ends
pub record KeepsEnd (v : Paired) (r : Placed) : Type 0 where
  pub own : home_at v.records r.loader ≡ Some r.home
  pub ended : r.end ≡ end_in v.pairs r.loader

-- what holds of the constraints of each name
abbrev pub KeepsEnds : Paired → Type 0
KeepsEnds v = AllByRecursion (KeepsEnd v) v.records

-- a loader whose search ends here records another class (5.3.4)
abbrev pub differs_at : List Placed → ℕ → ℕ → Bool
differs_at records end place = list_any (λ r. (r.end == end) && not (r.home == place)) records

-- loaders whose searches end at the one and at the other record different classes (5.3.4)
abbrev pub divides_at : List Placed → ℕ → ℕ → Bool
divides_at records one other =
    list_any (λ r. (r.end == one) && differs_at records other r.home) records

-- a record once a pair is added
abbrev pub moved_record : Pair → Placed → Placed
moved_record pair r = record r { end = next_by r.end pair }
