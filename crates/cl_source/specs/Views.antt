-- What contracts see of a probe (JVMS SE 8, 5.3.1, 5.3.2).
use Rattle.std.specs.Prelude.{ℕ, List, Option}

-- what a source found for a loader and a name: bytes, or nothing (5.3.1, 5.3.2)
pub record Found : Type 0 where
  pub loader : ℕ
  pub name : List ℕ
  pub bytes : Option (List ℕ)
