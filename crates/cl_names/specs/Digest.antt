-- What stands for a long name in the hash of a table: no answer depends on it.
use Rattle.std.specs.Prelude.{◌≡◌, ◌≤◌, ℕ, ◌+◌, Bool, nat_lt, if◌then◌else◌, List, ◌∷◌, ◌++◌, length, take}
use Rattle.std.specs.Hash as fed
use Rattle.std.specs.Hash.DefaultHasher as sip
use Rattle.std.specs.Int.{bytes_low_first}
use Rattle.cl_names.specs.Kind.{package_of}
use Rattle.cl_names.specs.Name.{part_of}
use Rattle.cl_names.specs.declared.digest.TheConstants.{DIGEST_BYTES, MOST_SHARED_BYTES}

-- a text that has a digest
abbrev pub is_long : List ℕ → Bool
is_long text = nat_lt MOST_SHARED_BYTES (length text)

-- the digest of a text: what the hasher with the known keys makes of it, its lowest byte first
abbrev pub digest : List ℕ → List ℕ
digest text = bytes_low_first 0 8 (sip.finish (sip.write sip.initial text))

-- the bytes as a name keeps them that shares no others: a long text has its digest behind it
abbrev pub bytes_to_keep : List ℕ → List ℕ
bytes_to_keep text = if is_long text then text ++ digest text else text

-- what a table hashes of a name: its bytes, or the digest of a long one
abbrev pub hashed_bytes : List ℕ → List ℕ
hashed_bytes text = if is_long text then digest text else text

-- that, and a byte that no text has: of a long name another than of a short one
abbrev pub fed_name : List ℕ → fed.HashWrites
fed_name text = hashed_bytes text ∷ fed.u8 (if is_long text then 0xfe else 0xff)

-- what is kept of a long text that stands in these bytes at a place: its digest, behind it, and how
-- many bytes stand before its last / (5.3)
pub record KeepsLong (start len front : ℕ) (bytes : List ℕ) : Type 0 where
  pub within : start + len + DIGEST_BYTES ≤ length bytes
  pub digest_is : part_of (start + len) DIGEST_BYTES bytes ≡ digest (part_of start len bytes)
  pub within_len : front ≤ len
  pub package_is : take front (part_of start len bytes) ≡ package_of (part_of start len bytes)
