-- What running a script over directories answers, and what it writes.
use Rattle.std.specs.Prelude.{◌≡◌, ◌⊎◌, ℕ, ⊤, List, None, Result, Ok, Err, string_bytes}
use Rattle.cl_config.specs.Configs.{config_of}
use Rattle.cl_config.specs.Scripts.{script_of}
use Rattle.cl_config.specs.Views.{Configured, Scripted, names_of}
use Rattle.cl_config.specs.declared.fault.ConfigFault.{ConfigFault}
use Rattle.cl_config.specs.declared.script.ScriptFault.{ScriptFault}
use Rattle.cl_registry.specs.declared.report.Report.{Report}
use Rattle.cl_schedule.specs.Headline.{IsServed, IsServedInOrder}
use Rattle.cl_source.specs.Seen.{IsTooLarge}
use Rattle.cl_program.specs.Asking.{Wanted}
use Rattle.cl_program.specs.Files.{Giving, GivesText, IsNoText, IsUnreadable, LacksText}
use Rattle.cl_program.specs.Outputs.{BreaksOff, Ended, OutcomeOf, Outputs, WritesNothing}
use Rattle.cl_streams.specs.Writing.{Stream}
use Rattle.cl_program.specs.Serving.{AreLinesBy, ByWorkers, IsUnserved}
use Rattle.cl_program.specs.declared.fault.Fault.{Fault}
use Rattle.cl_program.specs.declared.fault.Fault.TheVariants.{Write, TooLarge, NotUtf8, Config, Script, Serve, Threads, Path, Memory}
use Rattle.cl_program.specs.declared.limits.TheConstants.{MOST_INPUT_BYTES}

-- ---- the two files

-- what the text that a file gives is read as for a configuration: it, or its first fault
pub record IsConfigAt (gives : Giving) (result : Result Configured ConfigFault) : Type 0 where
  pub text : List ℕ
  pub given : GivesText gives text
  pub read : config_of text ≡ result

-- what the text that a file gives is read as for a script under a configuration: it, or its first fault
pub record IsScriptAt (gives : Giving) (config : Configured)
    (result : Result Scripted ScriptFault) : Type 0 where
  pub text : List ℕ
  pub given : GivesText gives text
  pub read : script_of (names_of config) text result

-- why there is no configuration at a path
abbrev pub LacksConfig : Giving → List ℕ → Fault → Type 0
LacksConfig gives path (Config fault) = IsConfigAt gives (Err fault)
LacksConfig gives path fault = LacksText gives path fault

-- why there is no script at a path
abbrev pub LacksScript : Giving → Configured → List ℕ → Fault → Type 0
LacksScript gives config path (Script fault) = IsScriptAt gives config (Err fault)
LacksScript gives config path fault = LacksText gives path fault

-- ---- the report

-- what so many workers make of a script over directories: one serves in order, several in any order of their steps. Of directories no
-- content is told, so this is what holds under any source (JVMS SE 8, 5.3)
abbrev pub IsServedOver : ℕ → Configured → Scripted → Report → Type 0
IsServedOver workers config script r = ByWorkers workers (IsServedInOrder None config script r)
    (IsServed None config script r)

-- the configuration was read, and this holds under it
pub record IsUnder (gives : List ℕ → Giving) (w : Wanted) (P : Configured → Type 0) : Type 0 where
  pub config : Configured
  pub configured : IsConfigAt (gives w.config) (Ok config)
  pub holds : P config

-- the configuration and then the script were read, and this holds of both
abbrev pub IsUnderBoth : (List ℕ → Giving) → Wanted → (Configured → Scripted → Type 0) → Type 0
IsUnderBoth gives w P =
    IsUnder gives w
    (λ config. (script : Scripted) × IsScriptAt (gives w.script) config (Ok script)
    × P config script)

-- the lines of a report of the script under the configuration that the files give
abbrev pub AreLinesFrom : (List ℕ → Giving) → Wanted → List ℕ → Type 0
AreLinesFrom gives w lines =
    IsUnderBoth gives w
    (λ config script. AreLinesBy (IsServedOver w.options.workers config script) config
    w.options.answers lines)

-- ---- how a run ends

-- this holds of the configuration's file, or of the script's once the configuration was read
abbrev pub IsOfOne : (List ℕ → Giving) → Wanted → (Giving → Type 0) → Type 0
IsOfOne gives w P = P (gives w.config) ⊎ IsUnder gives w (λ config. P (gives w.script))

-- the path is the configuration's, which cannot be read; or the configuration was read, and it is the script's, which cannot
abbrev pub IsUnreadPath : (List ℕ → Giving) → Wanted → List ℕ → Type 0
IsUnreadPath gives w path = ((path ≡ w.config) × IsUnreadable (gives w.config))
    ⊎ IsUnder gives w (λ config. (path ≡ w.script) × IsUnreadable (gives w.script))

-- the configuration and then the script were read, and the script was not served for this reason
abbrev pub IsUnservedUnder : (List ℕ → Giving) → Wanted → Fault → Type 0
IsUnservedUnder gives w f = IsUnderBoth gives w (λ config script. IsUnserved w.options.workers f)

-- when a run ends by a fault, and what is on its output; that a write was refused, or that memory ran out,
-- is taken at its word
abbrev pub EndsFrom : (List ℕ → Giving) → Wanted → Stream → Fault → Type 0
EndsFrom gives w out (Path p) = WritesNothing out (IsUnreadPath gives w (string_bytes p))
EndsFrom gives w out TooLarge = WritesNothing out
    (IsOfOne gives w (λ g. IsTooLarge g MOST_INPUT_BYTES))
EndsFrom gives w out NotUtf8 = WritesNothing out (IsOfOne gives w IsNoText)
EndsFrom gives w out (Config fault) = WritesNothing out (IsConfigAt (gives w.config) (Err fault))
EndsFrom gives w out (Script fault) = WritesNothing out
    (IsUnder gives w (λ config. IsScriptAt (gives w.script) config (Err fault)))
EndsFrom gives w out (Serve wrong) = WritesNothing out (IsUnservedUnder gives w (Serve wrong))
EndsFrom gives w out (Threads wrong) = WritesNothing out (IsUnservedUnder gives w (Threads wrong))
EndsFrom gives w out Write = BreaksOff (AreLinesFrom gives w) out
EndsFrom gives w out Memory = WritesNothing out ⊤ ⊎ BreaksOff (AreLinesFrom gives w) out
EndsFrom gives w out _ = ⊥

-- what running a script answers, and what is on its output
abbrev pub ScriptRunOf : (List ℕ → Giving) → Wanted → Stream → Result (Unit {0}) Fault → Type 0
ScriptRunOf gives w = OutcomeOf (AreLinesFrom gives w) (EndsFrom gives w)

-- no seed could be drawn, which is taken at its word: nothing is written, and the configuration's path is told as unread
abbrev pub IsSeedless : Wanted → Stream → Result (Unit {0}) Fault → Type 0
IsSeedless w out (Err (Path p)) = WritesNothing out (string_bytes p ≡ w.config)
IsSeedless w out _ = ⊥

-- so it is with a seed, or none could be drawn
abbrev pub IsRunOf : (List ℕ → Giving) → Wanted → Stream → Result (Unit {0}) Fault → Type 0
IsRunOf gives w out outcome = ScriptRunOf gives w out outcome ⊎ IsSeedless w out outcome

-- a script was run, or a fault ended it, and the exit status and both outputs say so
abbrev pub IsScriptRun : (List ℕ → Giving) → Wanted → Outputs → ℕ → Type 0
IsScriptRun gives w = Ended (IsRunOf gives w)

-- ---- its steps

-- why a script was not served: memory ran out for the directories, or its workers tell why
abbrev pub IsUnservedOver : ℕ → Fault → Type 0
IsUnservedOver workers Memory = ⊤
IsUnservedOver workers fault = IsUnserved workers fault
