-- What putting a class into a source in memory does.
use Rattle.std.specs.Prelude.{
  ◌≡◌,
  ℕ,
  ◌<◌,
  ◌≤◌,
  List,
  length,
  Some,
  None,
  IsSome,
  ◌==◌,
  ◌&&◌,
  bytes_eq,
  if◌then◌else◌,
}
use Rattle.cl_model.specs.Content.{Content, content_at}
use Rattle.cl_source.specs.declared.source.SourceFault.{SourceFault}
use Rattle.cl_source.specs.declared.source.SourceFault.TheVariants.{Memory, Device, TooLarge, Twice}
use Rattle.cl_source.specs.declared.size.TheConstants.{MOST_CLASS_BYTES}

-- the bytes are not too many for a class file
abbrev pub BytesFit : List ℕ → Type 0
BytesFit bytes = length bytes ≤ MOST_CLASS_BYTES

-- why nothing could be put: too large comes before twice, and twice before out of memory
abbrev pub RefusesPut : Content → ℕ → List ℕ → List ℕ → SourceFault → Type 0
RefusesPut content loader name bytes TooLarge = MOST_CLASS_BYTES < length bytes
RefusesPut content loader name bytes Twice =
    BytesFit bytes × IsSome (content_at content loader name)
RefusesPut content loader name bytes Memory =
    BytesFit bytes × (content_at content loader name ≡ None)
RefusesPut content loader name bytes Device = ⊥

-- the new content has these bytes for this loader and name, and for any other what the old one has
abbrev pub TellsMore : Content → Content → ℕ → List ℕ → List ℕ → Type 0
TellsMore old new loader name bytes =
    (l : ℕ) (n : List ℕ)
    → content_at new l n
    ≡ (if (loader == l) && bytes_eq name n then Some bytes else content_at old l n)
