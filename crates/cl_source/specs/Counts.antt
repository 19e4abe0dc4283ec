-- A source counts the reads that it refuses.
use Rattle.std.specs.Prelude.{◌≡◌, ◌⊎◌, ℕ, ◌+◌, ◌<◌, ◌^◌, Result, Ok, Err}
use Rattle.cl_source.specs.declared.source.SourceFault.{SourceFault}
use Rattle.cl_source.specs.declared.source.SourceFault.TheVariants.{Memory, Device, TooLarge, Twice}

-- the count rises by one; its last value stays
abbrev pub Rises : ℕ → ℕ → Type 0
Rises old new = ((old + 1 < 2 ^ 64) × (new ≡ old + 1)) ⊎ ((old + 1 ≡ 2 ^ 64) × (new ≡ old))

-- a refused read: the count rises exactly where it was not memory that ran out
abbrev pub CountsFault : ℕ → ℕ → SourceFault → Type 0
CountsFault old new Memory = new ≡ old
CountsFault old new Device = Rises old new
CountsFault old new TooLarge = Rises old new
CountsFault old new Twice = ⊥

-- a read: what it refuses is counted, and what it gives leaves the count
abbrev pub Counts : {A : Type 0} → ℕ → ℕ → Result A SourceFault → Type 0
Counts old new (Ok probe) = new ≡ old
Counts old new (Err fault) = CountsFault old new fault

-- a source that refuses one read of another: which, how many reads until then, how many were
-- refused, and the inner one
pub record Faulting (A : Type 0) : Type 0 where
  pub at : ℕ
  pub until : ℕ
  pub refused : ℕ
  pub inner : A

-- what is answered is what the inner source may answer, but for the one read, and once the count is
-- at its end
abbrev pub PassesOn : {A B : Type 0} → (Result B SourceFault → Type 0) → Faulting A
    → Result B SourceFault → Type 0
PassesOn inner s result = (s.until ≡ 1 → ⊥) → (s.refused + 1 < 2 ^ 64) → inner result
