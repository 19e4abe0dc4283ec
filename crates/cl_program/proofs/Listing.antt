-- How a class file's reading ends, from its steps.
use Rattle.std.proofs.Common.{◌≡◌, ◌⊎◌, ℕ, List, Option, Result, Ok, Err, IsErrAnd, inl, inr, sym, subst}
use Rattle.cl_classfile.specs.Checking.{GivesFault}
use Rattle.cl_classfile.specs.Reading.{read_of}
use Rattle.cl_classfile.specs.declared.fault.ReadError.{ReadError}
use Rattle.cl_classfile.specs.declared.fault.ReadError.TheVariants as errors
use Rattle.cl_program.specs.Faults.{print_fault}
use Rattle.cl_source.specs.Seen.{GivesAtMost}
use Rattle.cl_program.specs.Files.{Giving, IsUnread}
use Rattle.cl_program.specs.Readings.{AreLinesOf, FailsToRead, IsReading, IsFileFault, ReadingOf}
use Rattle.cl_program.specs.Outputs.{Outputs, TellsFault}
use Rattle.cl_streams.specs.Writing.{Stream, WritesPart}
use Rattle.cl_program.proofs.Running.{still}
use Rattle.cl_program.specs.declared.fault.Fault.{Fault}
use Rattle.cl_program.specs.declared.fault.Fault.TheVariants.{Write, TooLarge, Path, File, Memory}
use Rattle.cl_streams.specs.declared.output.PrintFault.{PrintFault}
use Rattle.cl_streams.specs.declared.output.PrintFault.TheVariants as print
use Rattle.cl_streams.proofs.Written.{appends_nothing}
use Rattle.cl_source.specs.declared.size.TheConstants.{MOST_CLASS_BYTES}

pub read_wrong : (gives : Giving) (path : List ℕ) (out : Stream) (r : Result (Unit {0}) Fault) (fault : Fault) → IsErrAnd r (λ e. e ≡ fault) → FailsToRead gives path out fault
    → ReadingOf gives path out r
read_wrong gives path out (Ok x) fault e w = absurd e
read_wrong gives path out (Err f) fault e w = subst (FailsToRead gives path out) (sym e) w

-- the file was not read
pub by_bytes : (gives : Giving) (path : List ℕ) (old : Option (List ℕ)) (fault : Fault) → IsUnread gives MOST_CLASS_BYTES path fault → FailsToRead gives path (still old) fault
by_bytes gives path old (Path p) w = (appends_nothing old, w)
by_bytes gives path old TooLarge w = (appends_nothing old, w)
by_bytes gives path old Memory w = inl (appends_nothing old, tt)
by_bytes gives path old fault w = absurd w

-- it is no class file
pub by_class : (gives : Giving) (path : List ℕ) (old : Option (List ℕ)) (bytes : List ℕ) (fault : Fault) → GivesAtMost gives MOST_CLASS_BYTES bytes → IsFileFault bytes fault → FailsToRead gives path (still old) fault
by_class gives path old bytes (File (errors.Fault f)) is w = (appends_nothing old, record { bytes = bytes; content = is; read = w })
by_class gives path old bytes (File errors.Memory) is w = (appends_nothing old, tt)
by_class gives path old bytes Memory is w = inl (appends_nothing old, tt)
by_class gives path old bytes fault is w = absurd w

pub refusal_is : (bytes : List ℕ) (error : ReadError) → GivesFault error (read_of bytes) → IsFileFault bytes (File error)
refusal_is bytes errors.Memory w = tt
refusal_is bytes (errors.Fault f) w = w

-- its lines were not written whole
pub by_writing : (gives : Giving) (path : List ℕ) (out : Stream) (lines : List ℕ) (fault : PrintFault) → AreLinesOf gives lines → WritesPart out lines
    → FailsToRead gives path out (print_fault fault)
by_writing gives path out lines print.Write is w = record { lines = lines; are = is; part = w }
by_writing gives path out lines print.Memory is w = inr (record { lines = lines; are = is; part = w })

-- ---- the exit status

-- out of memory may be told in place of any other fault
as_memory : (gives : Giving) (path : List ℕ) (out : Stream) (fault : Fault) → FailsToRead gives path out fault → FailsToRead gives path out Memory
as_memory gives path out (Path p) w = inl (w.0, tt)
as_memory gives path out TooLarge w = inl (w.0, tt)
as_memory gives path out (File (errors.Fault f)) w = inl (w.0, tt)
as_memory gives path out (File errors.Memory) w = inl (w.0, tt)
as_memory gives path out Write w = inr w
as_memory gives path out Memory w = w
as_memory gives path out fault w = absurd w

pub reading_failed : (gives : Giving) (path : List ℕ) (o : Outputs) (fault : Fault) (status : ℕ) → FailsToRead gives path o.out fault → status ≡ 1
    → TellsFault o.err fault ⊎ TellsFault o.err Memory → IsReading gives path o status
reading_failed gives path o fault status w s (inl told) = record { outcome = Err fault; ran = w; told = (s, told) }
reading_failed gives path o fault status w s (inr told) = record { outcome = Err Memory; ran = as_memory gives path o.out fault w; told = (s, told) }
