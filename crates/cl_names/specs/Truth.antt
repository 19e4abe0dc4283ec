-- When an answer is the truth.
use Rattle.std.specs.Prelude.{Bool, Option, Result, MatchBool, MatchOption, IfOk}

-- the answer is true where P holds, and false where it does not
abbrev pub Decides : Bool → Type 0 → Type 0
Decides answer P = MatchBool answer P (P → ⊥)

-- P holds of what was found, and of nothing where nothing was
abbrev pub FoundBy : {A : Type 0} → (A → Type 0) → Option A → Type 0
FoundBy {A} P found = MatchOption found ((a : A) → P a → ⊥) P

-- the same of what was read, unless memory ran out
abbrev pub Reads : {A E : Type 0} → (A → Type 0) → Result (Option A) E → Type 0
Reads P read = IfOk read (FoundBy P)
