-- How the program ends with its words, from its steps.
use Rattle.std.proofs.Common.{◌≡◌, ◌⊎◌, ◌∙◌, ℕ, List, Option, Result, Ok, Err, IsErrAnd, inl, inr, refl, subst, sym}
use Rattle.clap.specs.Words.{Row, Text}
use Rattle.clap.specs.declared.error.kind.ErrorKind.{ErrorKind}
use Rattle.clap.specs.declared.error.kind.ErrorKind.TheVariants as kinds
use Rattle.cl_streams.specs.declared.output.PrintFault.{PrintFault}
use Rattle.cl_streams.specs.declared.output.PrintFault.TheVariants as print
use Rattle.cl_streams.proofs.Written.{appends_nothing}
use Rattle.cl_program.specs.Asking.{AsksForBundle, AsksForFile, AsksForRun, Wanted, wanted_of}
use Rattle.cl_program.specs.Faults.{print_fault}
use Rattle.cl_program.specs.Files.{Giving}
use Rattle.cl_program.specs.Outputs.{Outputs, TellsFault}
use Rattle.cl_streams.specs.Writing.{Stream, WritesPart}
use Rattle.cl_program.specs.Readings.{IsReading}
use Rattle.cl_program.specs.Runs.{IsRun}
use Rattle.cl_program.specs.ScriptRuns.{IsScriptRun}
use Rattle.cl_program.specs.declared.asked.Asked.{Asked}
use Rattle.cl_program.specs.declared.asked.Asked.TheVariants.{Bundle, Read, Run}
use Rattle.cl_program.specs.declared.asked.Options.{Options}
use Rattle.cl_program.specs.declared.fault.Fault.{Fault}
use Rattle.cl_program.specs.declared.fault.Fault.TheVariants.{Memory}
use Rattle.classlink.specs.CommandLine.{CommandAsks, file_to_read}
use Rattle.classlink.specs.Endings.{EndsFor, OutputGrows, HelpOf, IsHelped, IsTaken, LacksMemory, Reads, Runs, RunsScript}

pub taken : (entered : Option (Text × List Row)) (input : Option (List ℕ)) (gives : List ℕ → Giving) (o : Outputs) (status : ℕ) (asked : Asked) → CommandAsks entered asked
    → ((options : Options) → AsksForBundle options asked → IsRun input options o status)
    → ((w : Wanted) → AsksForRun w asked → IsScriptRun gives w o status)
    → ((path : List ℕ) → AsksForFile path asked → IsReading (gives path) path o status)
    → IsTaken entered input gives o status
taken entered input gives o status (Bundle options) is bundle run read = Runs options is.0 is.1 (bundle options refl)
taken entered input gives o status (Run words) is bundle run read = RunsScript (wanted_of words) is.0 is.1 (run (wanted_of words) refl)
taken entered input gives o status (Read path) is bundle run read = Reads is.0 (read (file_to_read entered) (sym is.1))

-- ---- out of memory

pub lacking : (kind : ErrorKind) (o : Outputs) (status : ℕ) → kind ≡ kinds.OutOfMemory → EndsFor kind o status → LacksMemory o status
lacking kind o status is ends = subst (λ (k : ErrorKind). EndsFor k o status) is ends

pub lacking_run : (input : Option (List ℕ)) (options : Options) (o : Outputs) (status : ℕ) → LacksMemory o status → IsRun input options o status
lacking_run input options o status l = record { outcome = Err Memory; ran = inl (l.nothing, tt); told = l.told }

pub lacking_reading : (gives : Giving) (path : List ℕ) (o : Outputs) (status : ℕ) → LacksMemory o status → IsReading gives path o status
lacking_reading gives path o status l = record { outcome = Err Memory; ran = inl (l.nothing, tt); told = l.told }

pub lacking_script : (gives : List ℕ → Giving) (w : Wanted) (o : Outputs) (status : ℕ) → LacksMemory o status → IsScriptRun gives w o status
lacking_script gives w o status l = record { outcome = Err Memory; ran = inl (inl (l.nothing, tt)); told = l.told }

-- ---- help

pub grows : (out : Stream) (bytes : List ℕ) → WritesPart out bytes → OutputGrows out
grows out bytes part = record { text = part.front; grown = part.grown }

breaks_help : (fault : PrintFault) → HelpOf (Err (print_fault fault))
breaks_help print.Write = tt
breaks_help print.Memory = tt

pub help_wrong : (r : Result (Unit {0}) Fault) (fault : PrintFault) → IsErrAnd r (λ e. e ≡ print_fault fault) → HelpOf r
help_wrong (Ok x) fault e = tt
help_wrong (Err f) fault e = subst (λ (g : Fault). HelpOf (Err g)) (sym e) (breaks_help fault)

pub for_help : (said kind : ErrorKind) (o : Outputs) (status : ℕ) → said ≡ kind → (said ≡ kinds.DisplayHelp) ⊎ (said ≡ kinds.DisplayVersion) → IsHelped o status → EndsFor kind o status
for_help said kind o status same (inl is) h = subst (λ (k : ErrorKind). EndsFor k o status) (sym is ∙ same) h
for_help said kind o status same (inr is) h = subst (λ (k : ErrorKind). EndsFor k o status) (sym is ∙ same) h

pub helped : (out : Stream) (err : Option (List ℕ)) → OutputGrows out → IsHelped (record { out = out; err = record { old = err; new = err } }) 0
helped out err g = record { outcome = Ok tt; helped = tt; grown = g; told = (refl, appends_nothing err) }

pub help_failed : (o : Outputs) (fault : Fault) (status : ℕ) → HelpOf (Err fault) → OutputGrows o.out → status ≡ 1 → TellsFault o.err fault ⊎ TellsFault o.err Memory → IsHelped o status
help_failed o fault status h g is (inl told) = record { outcome = Err fault; helped = h; grown = g; told = (is, told) }
help_failed o fault status h g is (inr told) = record { outcome = Err Memory; helped = tt; grown = g; told = (is, told) }
