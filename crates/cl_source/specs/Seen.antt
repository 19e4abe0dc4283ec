-- What stands at a path, and what reading a file there answers.
use Rattle.std.specs.Prelude.{
  ◌<◌,
  ◌≤◌,
  ℕ,
  ⊤,
  List,
  length,
  Option,
  Some,
  None,
  Result,
  Ok,
  Err,
  Vec,
}
use Rattle.std.specs.Option.{option_map}
use Rattle.std.specs.Result.{result_map_both}
use Rattle.std.specs.declared.alloc.Global.{Global}
use Rattle.cl_streams.specs.declared.input.InputFault.{InputFault}
use Rattle.cl_streams.specs.declared.input.InputFault.TheVariants.{Unread, TooLarge, Memory}

-- what stands at a path: bytes; nothing, a part of the path that is a file included; or what the
-- system refuses
pub data Seen : Type 0 where
  Bytes : List ℕ → Seen
  Missing : Seen
  Refused : Seen

-- bytes that stand there, more than are wanted
pub record IsTooLarge (gives : Seen → Type 0) (most : ℕ) : Type 0 where
  pub bytes : List ℕ
  pub given : gives (Bytes bytes)
  pub large : most < length bytes

-- bytes that stand there, not more than are wanted
pub record GivesAtMost (gives : Seen → Type 0) (most : ℕ) (bytes : List ℕ) : Type 0 where
  pub given : gives (Bytes bytes)
  pub small : length bytes ≤ most

-- what reading a file may answer
abbrev pub FileOf : (Seen → Type 0) → ℕ → Result (Option (List ℕ)) InputFault → Type 0
FileOf gives most (Ok (Some bytes)) = GivesAtMost gives most bytes
FileOf gives most (Ok None) = gives Missing
FileOf gives most (Err TooLarge) = IsTooLarge gives most
FileOf gives most (Err Unread) = gives Refused
FileOf gives most (Err Memory) = ⊤

-- a file's bytes, without where they lie
abbrev pub file_seen : Result (Option (Vec ℕ Global)) InputFault
    → Result (Option (List ℕ)) InputFault
file_seen = result_map_both (option_map (λ v. v.items)) (λ e. e)
