-- What contracts see of a configuration and a script (JVMS SE 8, 5.3).
use Rattle.std.specs.Prelude.{ℕ, List, Option, map, nat_eq, position}
use Rattle.std.specs.Cmp.Lexicographic.{pointwise}
use Rattle.cl_model.specs.Homes.{Import}
use Rattle.cl_model.specs.declared.request.Request.{Request}
use Rattle.cl_config.specs.declared.order.Order.{Order}

-- a loader: its name, the directory of its own content, whom it asks and when, and what it takes
-- from where (5.3, 5.3.2)
pub record Loader : Type 0 where
  pub name : List ℕ
  pub dir : List ℕ
  pub parents : List ℕ
  pub order : Order
  pub imports : List Import

-- the loaders, in order, the first of which is numbered 0 (5.3)
pub record Configured : Type 0 where
  pub loaders : List Loader

-- the loaders' names, in order (5.3)
abbrev pub names_of : Configured → List (List ℕ)
names_of c = map (λ l. l.name) c.loaders

-- the first loader of this name, among the names of all in order (5.3)
abbrev pub loader_named : List (List ℕ) → List ℕ → Option ℕ
loader_named names word = position (λ name. pointwise nat_eq name word) names

-- the requests in order, the round of each, counted from 0, and how many rounds there are; a round
-- may be empty
pub record Scripted : Type 0 where
  pub requests : List Request
  pub rounds_of : List ℕ
  pub rounds : ℕ
