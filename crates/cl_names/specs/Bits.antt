-- The bits of a number as marks.
use Rattle.std.specs.Prelude.{ℕ, Bool, ◌==◌}
use Rattle.std.specs.Int.{bit_at}

-- the bit at k is 0
abbrev pub lacks : ℕ → ℕ → Bool
lacks k n = bit_at n k == 0
