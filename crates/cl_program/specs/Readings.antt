-- What reading a class file answers, and what it writes.
use Rattle.std.specs.Prelude.{◌≡◌, ◌⊎◌, ℕ, ⊤, List, Result, Ok, Err}
use Rattle.cl_classfile.specs.Structure.{Structure}
use Rattle.cl_classfile.specs.declared.fault.Fault.{Fault as ClassFault}
use Rattle.cl_classfile.specs.declared.fault.ReadError.TheVariants as errors
use Rattle.cl_classfile.specs.Reading.{read_of}
use Rattle.cl_writer.specs.Listings.{listing_of}
use Rattle.cl_source.specs.Seen.{GivesAtMost}
use Rattle.cl_program.specs.Files.{Giving, IsUnread}
use Rattle.cl_program.specs.Outputs.{BreaksOff, Ended, OutcomeOf, Outputs, WritesNothing}
use Rattle.cl_streams.specs.Writing.{Stream}
use Rattle.cl_program.specs.declared.fault.Fault.{Fault}
use Rattle.cl_program.specs.declared.fault.Fault.TheVariants.{Write, TooLarge, Path, File, Memory}
use Rattle.cl_source.specs.declared.size.TheConstants.{MOST_CLASS_BYTES}

-- the lines of the class file that bytes spell (JVMS SE 8, 4)
pub record IsListing (bytes lines : List ℕ) : Type 0 where
  pub file : Structure
  pub read : read_of bytes ≡ Ok file
  pub are : lines ≡ listing_of file

-- the lines of the class file that was read
pub record AreLinesOf (gives : Giving) (lines : List ℕ) : Type 0 where
  pub bytes : List ℕ
  pub content : GivesAtMost gives MOST_CLASS_BYTES bytes
  pub listing : IsListing bytes lines

-- what was read is no class file, and this is its first fault (JVMS SE 8, 4; the order of faults is an own choice)
pub record IsNoClass (gives : Giving) (fault : ClassFault) : Type 0 where
  pub bytes : List ℕ
  pub content : GivesAtMost gives MOST_CLASS_BYTES bytes
  pub read : read_of bytes ≡ Err fault

-- when a reading ends by a fault, and what is on its output
abbrev pub FailsToRead : Giving → List ℕ → Stream → Fault → Type 0
FailsToRead gives path out (Path p) = WritesNothing out
    (IsUnread gives MOST_CLASS_BYTES path (Path p))
FailsToRead gives path out TooLarge = WritesNothing out
    (IsUnread gives MOST_CLASS_BYTES path TooLarge)
FailsToRead gives path out (File (errors.Fault fault)) = WritesNothing out (IsNoClass gives fault)
FailsToRead gives path out (File errors.Memory) = WritesNothing out ⊤
FailsToRead gives path out Write = BreaksOff (AreLinesOf gives) out
FailsToRead gives path out Memory = WritesNothing out ⊤ ⊎ BreaksOff (AreLinesOf gives) out
FailsToRead gives path out _ = ⊥

-- what reading a class file answers, and what is on its output
abbrev pub ReadingOf : Giving → List ℕ → Stream → Result (Unit {0}) Fault → Type 0
ReadingOf gives path = OutcomeOf (AreLinesOf gives) (FailsToRead gives path)

-- the class file at a path was read, or a fault ended it, and the exit status and both outputs say so
abbrev pub IsReading : Giving → List ℕ → Outputs → ℕ → Type 0
IsReading gives path = Ended (ReadingOf gives path)

-- ---- its steps

-- the first fault of bytes that spell no class file (JVMS SE 8, 4; the order of faults is an own choice), or out of memory
abbrev pub IsFileFault : List ℕ → Fault → Type 0
IsFileFault bytes (File (errors.Fault fault)) = read_of bytes ≡ Err fault
IsFileFault bytes (File errors.Memory) = ⊤
IsFileFault bytes Memory = ⊤
IsFileFault bytes _ = ⊥
