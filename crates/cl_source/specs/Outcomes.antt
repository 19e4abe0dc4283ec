-- The bytes that an outcome of a probe holds (JVMS SE 8, 5.3.1, 5.3.2).
use Rattle.std.specs.Prelude.{ℕ, List, Option, Some, None}
use Rattle.cl_source.specs.declared.source.Outcome.{Outcome}
use Rattle.cl_source.specs.declared.source.Outcome.TheVariants.{Found, Absent}

-- the bytes that were found, if any (5.3.1, 5.3.2)
abbrev pub bytes_of : Outcome → Option (List ℕ)
bytes_of (Found bytes) = Some bytes.value
bytes_of Absent = None
