-- What an input gives, where that is known.
use Rattle.std.specs.Prelude.{◌≡◌, ◌<◌, ℕ, List, length, Option, IfSome}

-- these are all of the bytes that an input gives
abbrev pub AreAllOf : Option (List ℕ) → List ℕ → Type 0
AreAllOf input bytes = IfSome input (λ all. bytes ≡ all)

-- an input gives more bytes than so many
abbrev pub GivesOver : Option (List ℕ) → ℕ → Type 0
GivesOver input most = IfSome input (λ all. most < length all)
