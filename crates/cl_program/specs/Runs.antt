-- What a run of the program answers, and what it writes.
use Rattle.std.specs.Prelude.{◌⊎◌, ◌≤◌, ℕ, ⊤, List, length, Option, Some, Result, IfSome}
use Rattle.std.specs.Str.{IsUtf8}
use Rattle.cl_model.specs.Content.{Content}
use Rattle.cl_config.specs.Views.{Configured, Scripted}
use Rattle.cl_registry.specs.declared.report.Report.{Report}
use Rattle.cl_bundle.specs.Bundles.{IsBundle, IsNoBundle}
use Rattle.cl_bundle.specs.Faults.{UnlessMemory}
use Rattle.cl_bundle.specs.declared.fault.BundleFault.{BundleFault}
use Rattle.cl_schedule.specs.Headline.{IsServed}
use Rattle.cl_program.specs.Files.{AreNoText}
use Rattle.cl_program.specs.Outputs.{BreaksOff, Ended, OutcomeOf, Outputs, WritesNothing}
use Rattle.cl_streams.specs.Writing.{Stream}
use Rattle.cl_program.specs.Serving.{AreLinesBy, ByWorkers, IsServedAlone, IsUnserved}
use Rattle.cl_program.specs.declared.asked.Options.{Options}
use Rattle.cl_program.specs.declared.fault.Fault.{Fault}
use Rattle.cl_program.specs.declared.fault.Fault.TheVariants.{Input, Write, TooLarge, NotUtf8, Bundle, Serve, Threads, Memory}
use Rattle.cl_program.specs.declared.limits.TheConstants.{MOST_INPUT_BYTES}
use Rattle.cl_streams.specs.Reading.{AreAllOf, GivesOver}

-- the text that an input is: not too many bytes, in UTF-8
pub record IsInput (input : Option (List ℕ)) (text : List ℕ) : Type 0 where
  pub read : AreAllOf input text
  pub small : length text ≤ MOST_INPUT_BYTES
  pub utf8 : IsUtf8 text

-- what so many workers make of a script over a content: one serves in order, with no fault of the source; several in any order of
-- their steps (JVMS SE 8, 5.3)
abbrev pub IsServedBy : ℕ → Option Content → Configured → Scripted → Report → Type 0
IsServedBy workers told config script r = ByWorkers workers (IsServedAlone told config script r)
    (IsServed told config script r)

-- the input is a bundle, and this holds of what it tells
pub record IsOfBundle (input : Option (List ℕ)) (P : Configured → Content → Scripted → Type 0)
    : Type 0 where
  pub text : List ℕ
  pub config : Configured
  pub content : Content
  pub script : Scripted
  pub input_is : IsInput input text
  pub bundle : IsBundle text config content script
  pub holds : P config content script

-- the lines of a report of the bundle that an input is
abbrev pub AreLinesFor : Option (List ℕ) → Options → List ℕ → Type 0
AreLinesFor input o lines =
    IsOfBundle input
    (λ config content script. AreLinesBy (IsServedBy o.workers (Some content) config script) config
    o.answers lines)

-- the input is a text that is no bundle, with the first thing that is wrong with it
abbrev pub IsNoBundleIn : Option (List ℕ) → BundleFault → Type 0
IsNoBundleIn input wrong = (text : List ℕ) × IsInput input text × IsNoBundle text wrong

-- the input is a bundle, whose script was not served for this reason
abbrev pub IsUnservedFor : Option (List ℕ) → Options → Fault → Type 0
IsUnservedFor input o f = IsOfBundle input (λ config content script. IsUnserved o.workers f)

-- when a run ends by a fault, and what is on its output; that a read or a write was refused, or that memory ran out, is taken
-- at its word
abbrev pub EndsBy : Option (List ℕ) → Options → Stream → Fault → Type 0
EndsBy input o out Input = WritesNothing out ⊤
EndsBy input o out TooLarge = WritesNothing out (GivesOver input MOST_INPUT_BYTES)
EndsBy input o out NotUtf8 = WritesNothing out (IfSome input (λ bytes. AreNoText bytes))
EndsBy input o out (Bundle wrong) = WritesNothing out
    (UnlessMemory wrong (IsNoBundleIn input wrong))
EndsBy input o out (Serve wrong) = WritesNothing out (IsUnservedFor input o (Serve wrong))
EndsBy input o out (Threads wrong) = WritesNothing out (IsUnservedFor input o (Threads wrong))
EndsBy input o out Write = BreaksOff (AreLinesFor input o) out
EndsBy input o out Memory = WritesNothing out ⊤ ⊎ BreaksOff (AreLinesFor input o) out
EndsBy input o out _ = ⊥

-- what running a bundle answers, and what is on its output
abbrev pub RunOf : Option (List ℕ) → Options → Stream → Result (Unit {0}) Fault → Type 0
RunOf input o = OutcomeOf (AreLinesFor input o) (EndsBy input o)

-- a bundle was run, or a fault ended it, and the exit status and both outputs say so
abbrev pub IsRun : Option (List ℕ) → Options → Outputs → ℕ → Type 0
IsRun input o = Ended (RunOf input o)
