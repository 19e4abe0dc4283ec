-- The constraints of one name: who defined it for a loader, and which loaders are joined
-- (JVMS SE 8, 5.3.4).
use Rattle.std.specs.Prelude.{◌≡◌, ◌≢◌, ◌⊎◌, ℕ, Bool, Option, Some}
use Rattle.std.specs.Bool.{FalseIff}
use Rattle.cl_model.specs.States.{Differs, Divides}

-- the answer tells whether no loader joined to this one records another class (5.3.4)
abbrev pub TellsFit : (ℕ → Option ℕ) → (ℕ → ℕ → Type 0) → ℕ → ℕ → Bool → Type 0
TellsFit home joins loader place answer = FalseIff answer (Differs home joins loader place)

-- the answer tells whether what is joined to one loader and to the other records one class (5.3.4)
abbrev pub TellsAgreement : (ℕ → Option ℕ) → (ℕ → ℕ → Type 0) → ℕ → ℕ → Bool → Type 0
TellsAgreement home joins a b answer = FalseIff answer (Divides home joins a b)

-- one record more (5.3)
pub record Enters (old new : ℕ → Option ℕ) (loader place : ℕ) : Type 0 where
  pub here : new loader ≡ Some place
  pub elsewhere : (other : ℕ) → other ≢ loader → new other ≡ old other

-- two loaders are joined, each with all that it was joined with (5.3.4)
abbrev pub Joins : (ℕ → ℕ → Type 0) → ℕ → ℕ → ℕ → ℕ → Type 0
Joins joins a b x y = joins x y ⊎ (joins x a × joins b y) ⊎ (joins x b × joins a y)
