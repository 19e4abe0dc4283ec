-- What a run leaves on standard output and standard error, and its exit status.
use Rattle.std.specs.Prelude.{◌≡◌, ℕ, List, [], ◌∷◌, ◌++◌, codes, Option, Result, Ok, Err}
use Rattle.cl_streams.specs.Writing.{Stream, WritesBytes, WritesPart, stream}
use Rattle.cl_program.specs.Faults.{fault_text}
use Rattle.cl_program.specs.declared.fault.Fault.{Fault}

-- standard output and standard error
pub record Outputs : Type 0 where
  pub out : Stream
  pub err : Stream

-- what two writers hold before and after
abbrev pub outputs : {W E : Type 0} → (W → Option (List ℕ)) → W → W → (E → Option (List ℕ)) → E → E
    → Outputs
outputs on_out old_out new_out on_err old_err new_err = record
    { out = stream on_out old_out new_out; err = stream on_err old_err new_err }

-- such lines are written
pub record PrintsLines (AreLines : List ℕ → Type 0) (out : Stream) : Type 0 where
  pub lines : List ℕ
  pub are : AreLines lines
  pub whole : WritesBytes out lines

-- a first part of such lines is written, and no more
pub record BreaksOff (AreLines : List ℕ → Type 0) (out : Stream) : Type 0 where
  pub lines : List ℕ
  pub are : AreLines lines
  pub part : WritesPart out lines

-- nothing is written, for this reason
abbrev pub WritesNothing : Stream → Type 0 → Type 0
WritesNothing s reason = WritesBytes s [] × reason

-- the line of a fault
abbrev pub fault_line : List ℕ → List ℕ
fault_line text = codes "classlink: " ++ text ++ 0x0a ∷ []

-- the line of a fault is written, as far as its output takes it
abbrev pub TellsFault : Stream → Fault → Type 0
TellsFault err fault = WritesPart err (fault_line (fault_text fault))

-- the exit status, and what is on standard error
abbrev pub EndsWith : Stream → ℕ → Result (Unit {0}) Fault → Type 0
EndsWith err status (Ok x) = (status ≡ 0) × WritesBytes err []
EndsWith err status (Err fault) = (status ≡ 1) × TellsFault err fault

-- what a run answers, and what is on its output: such lines, or what a fault that ends it leaves
abbrev pub OutcomeOf : (List ℕ → Type 0) → (Stream → Fault → Type 0) → Stream
    → Result (Unit {0}) Fault → Type 0
OutcomeOf AreLines EndsBy out (Ok x) = PrintsLines AreLines out
OutcomeOf AreLines EndsBy out (Err fault) = EndsBy out fault

-- a run answered so, and the exit status and both outputs say so
pub record Ended (Answers : Stream → Result (Unit {0}) Fault → Type 0) (o : Outputs) (status : ℕ)
    : Type 0 where
  pub outcome : Result (Unit {0}) Fault
  pub ran : Answers o.out outcome
  pub told : EndsWith o.err status outcome
