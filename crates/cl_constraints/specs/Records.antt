-- What loaders record of one name (JVMS SE 8, 5.3).
use Rattle.std.specs.Prelude.{ℕ, ◌==◌, List, Option, option_map, find}
use Rattle.cl_constraints.specs.declared.record.Entered.{Entered}

-- who defined the class that a loader records, where a record tells its loader and its home (5.3)
abbrev pub home_by : {R : Type 0} → (R → ℕ) → (R → ℕ) → List R → ℕ → Option ℕ
home_by loader_of home_of records loader =
    option_map home_of (find (λ r. loader_of r == loader) records)

-- the same of what is shown of a name
abbrev pub home_in : List Entered → ℕ → Option ℕ
home_in records loader = home_by (λ r. r.loader) (λ r. r.home) records loader
