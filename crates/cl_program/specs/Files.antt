-- What the files that the words name give.
use Rattle.std.specs.Prelude.{◌≡◌, ◌⊎◌, ◌≤◌, ℕ, ⊤, List, length, string_bytes}
use Rattle.std.specs.Str.{IsUtf8}
use Rattle.cl_source.specs.Seen.{Seen, Missing, Refused, IsTooLarge, GivesAtMost}
use Rattle.cl_program.specs.declared.fault.Fault.{Fault}
use Rattle.cl_program.specs.declared.fault.Fault.TheVariants.{NotUtf8, TooLarge, Path, Memory}
use Rattle.cl_program.specs.declared.limits.TheConstants.{MOST_INPUT_BYTES}

-- what may stand at a path
abbrev pub Giving : Type 1
Giving = Seen → Type 0

-- no file stands there, or the system refuses it
abbrev pub IsUnreadable : Giving → Type 0
IsUnreadable gives = gives Missing ⊎ gives Refused

-- why there are no bytes of the file at a path
abbrev pub IsUnread : Giving → ℕ → List ℕ → Fault → Type 0
IsUnread gives most path (Path p) = (string_bytes p ≡ path) × IsUnreadable gives
IsUnread gives most path TooLarge = IsTooLarge gives most
IsUnread gives most path Memory = ⊤
IsUnread gives most path _ = ⊥

-- not too many bytes, which are no text
abbrev pub AreNoText : List ℕ → Type 0
AreNoText bytes = (length bytes ≤ MOST_INPUT_BYTES) × ¬ (IsUtf8 bytes)

-- a text that a file gives
pub record GivesText (gives : Giving) (text : List ℕ) : Type 0 where
  pub content : GivesAtMost gives MOST_INPUT_BYTES text
  pub utf8 : IsUtf8 text

-- a file gives bytes that are no text
pub record IsNoText (gives : Giving) : Type 0 where
  pub bytes : List ℕ
  pub content : GivesAtMost gives MOST_INPUT_BYTES bytes
  pub not_utf8 : ¬ (IsUtf8 bytes)

-- why there is no text of the file at a path
abbrev pub LacksText : Giving → List ℕ → Fault → Type 0
LacksText gives path NotUtf8 = IsNoText gives
LacksText gives path fault = IsUnread gives MOST_INPUT_BYTES path fault
