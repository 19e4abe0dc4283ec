-- Two lists, walked pair by pair.
use Rattle.std.proofs.Common.{◌≡◌, List, length}

-- what is left of two lists is the same exactly where the lists are
pub record IsLeft {X : Type 0} (xs ys left other : List X) : Type 0 where
  pub long : length left ≡ length other
  pub same : left ≡ other → xs ≡ ys
  pub back : xs ≡ ys → left ≡ other
