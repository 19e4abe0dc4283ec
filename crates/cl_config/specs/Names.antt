-- What a table of names keeps.
use Rattle.std.specs.Prelude.{◌≡◌, ℕ, List, String}
use Rattle.std.specs.Global.{Global}
use Rattle.std.specs.BTreeMap.{BTreeMap, get_by_text}
use Rattle.cl_config.specs.Views.{loader_named}

-- the table has the place of each name, and no other text
pub record AreAt (names : List (List ℕ)) (places : BTreeMap (String Global) ℕ) : Type 0 where
  pub at : (word : List ℕ) → get_by_text places word ≡ loader_named names word
