-- Constraints, name by name; what they mean is of JVMS SE 8, 5.3.4.
use Rattle.std.specs.Prelude.{◌≡◌, ◌≢◌, ◌↔◌, ℕ, Bool, List, Option, Some, MatchOption, nat_eq, option_and_then}
use Rattle.std.specs.Map.{lookup}
use Rattle.std.specs.Cmp.Lexicographic.{pointwise}
use Rattle.cl_classfile.specs.Files.{Name}
use Rattle.cl_constraints.specs.Singles.{TellsFit, TellsAgreement, Enters, Joins}

-- what stands of a name, if anything does
abbrev pub found_named : {N : Type 0} → List (Name × N) → Name → Option N
found_named book name = lookup (pointwise nat_eq name) book

-- who defined the class that a loader records for a name, if anything stands of it (5.3)
abbrev pub home_of : {N : Type 0} → (N → ℕ → Option ℕ) → List (Name × N) → Name → ℕ → Option ℕ
home_of record_at book name loader =
    option_and_then (λ one. record_at one loader) (found_named book name)

-- two loaders are joined for a name; where nothing stands of it, they are one (5.3.4)
abbrev pub joins_of : {N : Type 0} → (N → ℕ → ℕ → Type 0) → List (Name × N) → Name → ℕ → ℕ → Type 0
joins_of joins book name a b = MatchOption (found_named book name) (a ≡ b) (λ one. joins one a b)

-- the answer tells whether no loader joined to this one for a name records another class (5.3.4)
abbrev pub TellsFitAt : {N : Type 0} → (N → ℕ → Option ℕ) → (N → ℕ → ℕ → Type 0) → List (Name × N)
    → Name → ℕ → ℕ → Bool → Type 0
TellsFitAt record_at joins book name loader place answer =
    TellsFit (home_of record_at book name) (joins_of joins book name) loader place answer

-- the answer tells whether what is joined to one loader and to another for a name records one class
-- (5.3.4)
abbrev pub AgreesAt : {N : Type 0} → (N → ℕ → Option ℕ) → (N → ℕ → ℕ → Type 0) → List (Name × N)
    → Name → ℕ → ℕ → Bool → Type 0
AgreesAt record_at joins book name a b answer =
    TellsAgreement (home_of record_at book name) (joins_of joins book name) a b answer

-- of each name but this one stands what stood
abbrev pub OthersStay : {N : Type 0} → List (Name × N) → List (Name × N) → Name → Type 0
OthersStay old new name = (m : Name) → m ≢ name → found_named new m ≡ found_named old m

-- this stands of a name, and of each other what stood
pub record Sets {N : Type 0} (old new : List (Name × N)) (name : Name) (one : N) : Type 0 where
  pub here : found_named new name ≡ Some one
  pub others : OthersStay old new name

-- one record more, for a name (5.3)
pub record EntersAt {N : Type 0} (record_at : N → ℕ → Option ℕ) (joins : N → ℕ → ℕ → Type 0)
    (old new : List (Name × N)) (name : Name) (loader place : ℕ) : Type 0 where
  pub records : Enters (home_of record_at old name) (home_of record_at new name) loader place
  pub joined : (a b : ℕ) → joins_of joins new name a b ↔ joins_of joins old name a b
  pub others : OthersStay old new name

-- two loaders more are joined, for a name (5.3.4)
pub record JoinsAt {N : Type 0} (record_at : N → ℕ → Option ℕ) (joins : N → ℕ → ℕ → Type 0)
    (old new : List (Name × N)) (name : Name) (a b : ℕ) : Type 0 where
  pub records : (loader : ℕ) → home_of record_at new name loader ≡ home_of record_at old name loader
  pub joined : (x y : ℕ) → joins_of joins new name x y ↔ Joins (joins_of joins old name) a b x y
  pub others : OthersStay old new name
