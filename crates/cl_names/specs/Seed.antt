-- What a table of names hashes with.
use Rattle.std.specs.Prelude.{Option, Some, None}
use Rattle.std.specs.Hash.DefaultHasher as sip
use Rattle.std.specs.declared.hash.DefaultHasher.{DefaultHasher}
use Rattle.std.specs.declared.random_state.RandomState.{RandomState}
use Rattle.std.specs.RandomState.{initial_hasher}
use Rattle.cl_names.specs.declared.seed.Seed.{Seed}

-- the hasher of a seed that was drawn, or of the one that everyone knows
abbrev pub hasher_of : Option RandomState → DefaultHasher
hasher_of (Some state) = initial_hasher state
hasher_of None = sip.initial

-- the hasher that a table begins each name with
abbrev pub first_hasher : Seed → DefaultHasher
first_hasher s = hasher_of s.drawn
