-- Where a row stands among others.
use Rattle.std.specs.Prelude.{◌≡◌, List, ◌∷◌, ◌++◌}
use Rattle.cl_hierarchy.specs.Rows.{Rowed}

-- this row stands among these behind the earlier ones
pub record IsPlace (rows earlier : List Rowed) (r : Rowed) : Type 0 where
  pub later : List Rowed
  pub split : rows ≡ earlier ++ r ∷ later
