-- What a writer holds while bytes are written to it.
use Rattle.std.specs.Prelude.{◌≡◌, ℕ, List, ◌++◌, Option}
use Rattle.std.specs.Io.KnownBytes.{Appends}

-- known bytes grow by a first part of these
pub record AppendsPart (old new : Option (List ℕ)) (bytes : List ℕ) : Type 0 where
  pub front : List ℕ
  pub rest : List ℕ
  pub whole : bytes ≡ front ++ rest
  pub grown : Appends old new front

-- of what waited and these bytes, known bytes grow by a first part, and the rest waits
pub record Passes (old : Option (List ℕ)) (waited : List ℕ) (new : Option (List ℕ))
    (waits bytes : List ℕ) : Type 0 where
  pub front : List ℕ
  pub whole : waited ++ bytes ≡ front ++ waits
  pub grown : Appends old new front

-- what a stream holds before and after, where that is known
pub record Stream : Type 0 where
  pub old : Option (List ℕ)
  pub new : Option (List ℕ)

-- what a writer holds before and after
abbrev pub stream : {W : Type 0} → (W → Option (List ℕ)) → W → W → Stream
stream contents old new = record { old = contents old; new = contents new }

-- these bytes are written
abbrev pub WritesBytes : Stream → List ℕ → Type 0
WritesBytes s bytes = Appends s.old s.new bytes

-- a first part of these bytes is written, and no more
abbrev pub WritesPart : Stream → List ℕ → Type 0
WritesPart s bytes = AppendsPart s.old s.new bytes

-- a stream that is written in pages: what it holds, and the bytes that waited before and that wait after
pub record Paged : Type 0 where
  pub out : Stream
  pub waited : List ℕ
  pub waits : List ℕ

-- what a writer holds before and after, and a text of what waits
abbrev pub paged : {W S : Type 0} → (W → Option (List ℕ)) → W → W → (S → List ℕ) → S → S → Paged
paged contents old new bytes waited waits = record
    { out = stream contents old new; waited = bytes waited; waits = bytes waits }

-- these bytes are put behind what waits, of which a first part may be written
abbrev pub PutsBehind : Paged → List ℕ → Type 0
PutsBehind p bytes = Passes p.out.old p.waited p.out.new p.waits bytes

-- a first part of what waited, with these bytes behind it, is written, and no more
abbrev pub StopsWithin : Paged → List ℕ → Type 0
StopsWithin p bytes = WritesPart p.out (p.waited ++ bytes)
