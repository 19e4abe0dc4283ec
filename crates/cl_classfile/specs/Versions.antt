-- Which versions of class files are read (JVMS SE 8, 4.1).
use Rattle.std.specs.Prelude.{◌≡◌, ℕ, Bool, false, ◌&&◌, ◌||◌, ◌==◌, ◌<◌, ◌^◌, IsTrue, nat_le, List, ◌++◌}
use Rattle.std.specs.Int.{w16, to_be_bytes}
use Rattle.cl_classfile.specs.declared.version.Version.{Version}

-- 45.0 to 52.0, below 52 with every minor number (4.1)
abbrev pub is_supported : Version → Bool
is_supported v = (nat_le 45 v.major && nat_le v.major 51) || (v.major == 52 && v.minor == 0)

-- the minor number, and then the major one (4.1)
abbrev pub version_spelling : Version → List ℕ
version_spelling v = to_be_bytes w16 v.minor ++ to_be_bytes w16 v.major

-- each number is one of two bytes (4.1)
abbrev pub NumbersFit : Version → Type 0
NumbersFit v = (v.minor < 2 ^ 16) × (v.major < 2 ^ 16)

-- the bytes are the numbers of a version that is not read (4.1)
pub record SpellsOther (bytes : List ℕ) : Type 0 where
  pub numbers : Version
  pub fit : NumbersFit numbers
  pub spelled : bytes ≡ version_spelling numbers
  pub other : is_supported numbers ≡ false

-- the numbers are of two bytes, and the version is one that is read (4.1)
pub record VersionFits (v : Version) : Type 0 where
  pub minor : v.minor < 2 ^ 16
  pub major : v.major < 2 ^ 16
  pub supported : IsTrue (is_supported v)
