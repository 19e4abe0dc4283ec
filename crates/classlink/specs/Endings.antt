-- How the program ends with its words, whether `clap` takes them or not.
use Rattle.std.specs.Prelude.{◌≡◌, ◌⊎◌, ℕ, ⊤, List, [], Option, Result, Ok, Err}
use Rattle.clap.specs.Words.{IsAmong, Kinds, Row, Text}
use Rattle.clap.specs.declared.error.kind.ErrorKind.{ErrorKind}
use Rattle.clap.specs.declared.error.kind.ErrorKind.TheVariants as kinds
use Rattle.cl_program.specs.Asking.{Wanted}
use Rattle.cl_program.specs.Files.{Giving}
use Rattle.cl_program.specs.Outputs.{EndsWith, Outputs}
use Rattle.cl_streams.specs.Writing.{Stream, WritesBytes}
use Rattle.cl_program.specs.Readings.{IsReading}
use Rattle.cl_program.specs.Runs.{IsRun}
use Rattle.cl_program.specs.ScriptRuns.{IsScriptRun}
use Rattle.cl_program.specs.declared.asked.Options.{Options}
use Rattle.cl_program.specs.declared.fault.Fault.{Fault}
use Rattle.cl_program.specs.declared.fault.Fault.TheVariants.{Memory, Write}
use Rattle.classlink.specs.CommandLine.{HasOptions, IsForBundle, IsToRead, IsToRun, RunWants, file_to_read}

-- ---- words that `clap` takes

-- memory ran out before anything was done: this is told, and standard output is as it was
pub record LacksMemory (o : Outputs) (status : ℕ) : Type 0 where
  pub nothing : WritesBytes o.out []
  pub told : EndsWith o.err status (Err Memory)

-- what `clap` finds in words that it takes is done: the file of `read` is read, a script is run, or a bundle with its options;
-- or memory ran out
pub data IsTaken (entered : Option (Text × List Row)) (input : Option (List ℕ))
    (gives : List ℕ → Giving) (o : Outputs) (status : ℕ) : Type 0 where
  Reads : IsToRead entered → IsReading (gives (file_to_read entered))
      (file_to_read entered) o status → IsTaken entered input gives o status
  RunsScript : (w : Wanted) → IsToRun entered → RunWants entered w → IsScriptRun gives w o status
      → IsTaken entered input gives o status
  Runs : (options : Options) → IsForBundle entered → HasOptions entered options
      → IsRun input options o status → IsTaken entered input gives o status
  Lacks : LacksMemory o status → IsTaken entered input gives o status

-- ---- words that it does not take, and those that ask for help

-- known bytes grow by some text
pub record OutputGrows (s : Stream) : Type 0 where
  pub text : List ℕ
  pub grown : WritesBytes s text

-- writing help succeeds, or is refused for a write or since memory ran out; what is written is clap's
abbrev pub HelpOf : Result (Unit {0}) Fault → Type 0
HelpOf (Ok x) = ⊤
HelpOf (Err Write) = ⊤
HelpOf (Err Memory) = ⊤
HelpOf (Err _) = ⊥

-- standard output grows by some text, and standard error by nothing but the line of a fault that breaks it off
pub record IsHelped (o : Outputs) (status : ℕ) : Type 0 where
  pub outcome : Result (Unit {0}) Fault
  pub helped : HelpOf outcome
  pub grown : OutputGrows o.out
  pub told : EndsWith o.err status outcome

-- how the program ends where `clap` answers with an error of this kind: out of memory and help as above, any other with status 2 and standard output as it was
abbrev pub EndsFor : ErrorKind → Outputs → ℕ → Type 0
EndsFor kinds.OutOfMemory o status = LacksMemory o status
EndsFor kinds.DisplayHelp o status = IsHelped o status
EndsFor kinds.DisplayVersion o status = IsHelped o status
EndsFor _ o status = (status ≡ 2) × WritesBytes o.out []

-- the program ends as where memory ran out, or as for one of these kinds of error
pub record IsTurnedDown (faults : Kinds) (o : Outputs) (status : ℕ) : Type 0 where
  pub kind : ErrorKind
  pub among : (kind ≡ kinds.OutOfMemory) ⊎ IsAmong kind faults
  pub ends : EndsFor kind o status
