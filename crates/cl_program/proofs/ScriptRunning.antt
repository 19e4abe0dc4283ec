-- How a script's run over directories ends, from its steps.
use Rattle.std.proofs.Common.{◌≡◌, ◌⊎◌, ◌∙◌, ℕ, List, Option, Result, Ok, Err, IsErrAnd, ap, inl, inr, sym, subst}
use Rattle.cl_config.specs.Views.{Configured, Scripted, names_of}
use Rattle.cl_registry.specs.declared.report.Report.{Report}
use Rattle.cl_report.specs.Report.{report_lines}
use Rattle.cl_streams.specs.declared.output.PrintFault.{PrintFault}
use Rattle.cl_streams.specs.declared.output.PrintFault.TheVariants as print
use Rattle.cl_streams.proofs.Written.{appends_nothing}
use Rattle.cl_program.specs.Asking.{Wanted}
use Rattle.cl_program.specs.Faults.{print_fault}
use Rattle.cl_program.specs.Files.{Giving}
use Rattle.cl_program.specs.Outputs.{Outputs, TellsFault}
use Rattle.cl_streams.specs.Writing.{Stream, WritesPart}
use Rattle.cl_program.proofs.Running.{still}
use Rattle.cl_program.specs.ScriptRuns.{AreLinesFrom, EndsFrom, IsConfigAt, IsRunOf, IsScriptAt, IsScriptRun, IsSeedless, IsServedOver, IsUnservedOver, LacksConfig, LacksScript, ScriptRunOf}
use Rattle.cl_program.specs.declared.fault.Fault.{Fault}
use Rattle.cl_program.specs.declared.fault.Fault.TheVariants.{Write, TooLarge, NotUtf8, Config, Script, Serve, Threads, Path, Memory}

pub script_wrong : (gives : List ℕ → Giving) (w : Wanted) (out : Stream) (r : Result (Unit {0}) Fault) (fault : Fault) → IsErrAnd r (λ e. e ≡ fault) → EndsFrom gives w out fault → ScriptRunOf gives w out r
script_wrong gives w out (Ok x) fault e h = absurd e
script_wrong gives w out (Err f) fault e h = subst (EndsFrom gives w out) (sym e) h

-- ---- the configuration

-- it is the first of the two files that are read
pub by_config : (gives : List ℕ → Giving) (w : Wanted) (old : Option (List ℕ)) (fault : Fault) → LacksConfig (gives w.config) w.config fault → EndsFrom gives w (still old) fault
by_config gives w old (Path p) h = (appends_nothing old, inl h)
by_config gives w old TooLarge h = (appends_nothing old, inl h)
by_config gives w old NotUtf8 h = (appends_nothing old, inl h)
by_config gives w old (Config fault) h = (appends_nothing old, h)
by_config gives w old Memory h = inl (appends_nothing old, tt)
by_config gives w old fault h = absurd h

-- ---- the script

pub by_script : (gives : List ℕ → Giving) (w : Wanted) (old : Option (List ℕ)) (config : Configured) (fault : Fault) → IsConfigAt (gives w.config) (Ok config) → LacksScript (gives w.script) config w.script fault
    → EndsFrom gives w (still old) fault
by_script gives w old config (Path p) is h = (appends_nothing old, inr (record { config = config; configured = is; holds = h }))
by_script gives w old config TooLarge is h = (appends_nothing old, inr (record { config = config; configured = is; holds = h }))
by_script gives w old config NotUtf8 is h = (appends_nothing old, inr (record { config = config; configured = is; holds = h }))
by_script gives w old config (Script fault) is h = (appends_nothing old, record { config = config; configured = is; holds = h })
by_script gives w old config Memory is h = inl (appends_nothing old, tt)
by_script gives w old config fault is h = absurd h

pub by_memory : (gives : List ℕ → Giving) (w : Wanted) (old : Option (List ℕ)) → EndsFrom gives w (still old) Memory
by_memory gives w old = inl (appends_nothing old, tt)

pub by_service : (gives : List ℕ → Giving) (w : Wanted) (old : Option (List ℕ)) (config : Configured) (script : Scripted) (fault : Fault) → IsConfigAt (gives w.config) (Ok config)
    → IsScriptAt (gives w.script) config (Ok script) → IsUnservedOver w.options.workers fault → EndsFrom gives w (still old) fault
by_service gives w old config script (Serve wrong) is read h = (appends_nothing old, record { config = config; configured = is; holds = (script, read, h) })
by_service gives w old config script (Threads wrong) is read h = (appends_nothing old, record { config = config; configured = is; holds = (script, read, h) })
by_service gives w old config script Memory is read h = inl (appends_nothing old, tt)
by_service gives w old config script fault is read h = absurd h

-- ---- the report

-- the lines that are printed are those of a report, where what is held in between is what was read
pub lines_from : (gives : List ℕ → Giving) (w : Wanted) (config held seen : Configured) (script given : Scripted) (report : Report) (names : List (List ℕ))
    → IsConfigAt (gives w.config) (Ok config) → IsScriptAt (gives w.script) config (Ok script) → held ≡ config → given ≡ script → IsServedOver w.options.workers held given report
    → names ≡ names_of seen → seen ≡ config → AreLinesFrom gives w (report_lines names w.options.answers report.history report.answers)
lines_from gives w config held seen script given report names configured scripted h s served n e = record {
  config = config;
  configured = configured;
  holds = (
    script,
    scripted,
    record {
      report = report;
      served = subst (λ (x : Scripted). IsServedOver w.options.workers config x report) s (subst (λ (x : Configured). IsServedOver w.options.workers x given report) h served);
      are = ap (λ (x : List (List ℕ)). report_lines x w.options.answers report.history report.answers) (n ∙ ap names_of e);
    },
  );
}

pub by_printing : (gives : List ℕ → Giving) (w : Wanted) (out : Stream) (lines : List ℕ) (fault : PrintFault) → AreLinesFrom gives w lines → WritesPart out lines → EndsFrom gives w out (print_fault fault)
by_printing gives w out lines print.Write are part = record { lines = lines; are = are; part = part }
by_printing gives w out lines print.Memory are part = inr (record { lines = lines; are = are; part = part })

-- ---- the seed

-- where there is none the path of the configuration is told, or out of memory for its text
pub seedless : (gives : List ℕ → Giving) (w : Wanted) (old : Option (List ℕ)) (r : Result (Unit {0}) Fault) → IsErrAnd r (λ e. e ≡ Memory) → IsRunOf gives w (still old) r
seedless gives w old (Ok x) e = absurd e
seedless gives w old (Err f) e = inl (subst (EndsFrom gives w (still old)) (sym e) (by_memory gives w old))

-- ---- the exit status

-- out of memory may be told in place of any other fault
as_memory : (gives : List ℕ → Giving) (w : Wanted) (out : Stream) (fault : Fault) → EndsFrom gives w out fault → EndsFrom gives w out Memory
as_memory gives w out (Path p) h = inl (h.0, tt)
as_memory gives w out TooLarge h = inl (h.0, tt)
as_memory gives w out NotUtf8 h = inl (h.0, tt)
as_memory gives w out (Config wrong) h = inl (h.0, tt)
as_memory gives w out (Script wrong) h = inl (h.0, tt)
as_memory gives w out (Serve wrong) h = inl (h.0, tt)
as_memory gives w out (Threads wrong) h = inl (h.0, tt)
as_memory gives w out Write h = inr h
as_memory gives w out Memory h = h
as_memory gives w out fault h = absurd h

without_seed : (gives : List ℕ → Giving) (w : Wanted) (out : Stream) (fault : Fault) → IsSeedless w out (Err fault) → EndsFrom gives w out Memory
without_seed gives w out (Path p) h = inl (h.0, tt)
without_seed gives w out fault h = absurd h

for_memory : (gives : List ℕ → Giving) (w : Wanted) (out : Stream) (fault : Fault) → IsRunOf gives w out (Err fault) → IsRunOf gives w out (Err Memory)
for_memory gives w out fault (inl h) = inl (as_memory gives w out fault h)
for_memory gives w out fault (inr h) = inl (without_seed gives w out fault h)

pub script_failed : (gives : List ℕ → Giving) (w : Wanted) (o : Outputs) (fault : Fault) (status : ℕ) → IsRunOf gives w o.out (Err fault) → status ≡ 1
    → TellsFault o.err fault ⊎ TellsFault o.err Memory → IsScriptRun gives w o status
script_failed gives w o fault status ran is (inl told) = record { outcome = Err fault; ran = ran; told = (is, told) }
script_failed gives w o fault status ran is (inr told) = record { outcome = Err Memory; ran = for_memory gives w o.out fault ran; told = (is, told) }
