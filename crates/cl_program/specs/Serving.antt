-- What so many workers make of a script, and why they make no report of it (JVMS SE 8, 5.3).
use Rattle.std.specs.Prelude.{◌≡◌, ℕ, Bool, List, Option}
use Rattle.cl_model.specs.Content.{Content}
use Rattle.cl_config.specs.Views.{Configured, Scripted, names_of}
use Rattle.cl_registry.specs.declared.report.Report.{Report}
use Rattle.cl_report.specs.Report.{report_lines}
use Rattle.cl_schedule.specs.Counting.{faults}
use Rattle.cl_schedule.specs.Headline.{IsServedInOrder}
use Rattle.cl_schedule.specs.Serving.{reported_registry}
use Rattle.cl_schedule.specs.declared.serve.ServeFault.TheVariants as serve
use Rattle.cl_pool.specs.Served.{WorkersMayServe}
use Rattle.cl_program.specs.declared.fault.Fault.{Fault}
use Rattle.cl_program.specs.declared.fault.Fault.TheVariants.{Serve, Threads}
use Rattle.cl_program.specs.declared.fault.ThreadFault.{ThreadFault}
use Rattle.cl_program.specs.declared.fault.ThreadFault.TheVariants.{Workers}

-- so many workers may serve, and the one holds where one serves, the other where several do
pub record ByWorkers (workers : ℕ) (One Several : Type 0) : Type 0 where
  pub within : WorkersMayServe workers
  pub alone : workers ≡ 1 → One
  pub together : ¬ (workers ≡ 1) → Several

-- the report of a script that was served in order under a configuration, with no fault of the source (5.3)
pub record IsServedAlone (told : Option Content) (config : Configured) (script : Scripted)
    (r : Report) : Type 0 where
  pub in_order : IsServedInOrder told config script r
  pub no_source_faults : faults (reported_registry config r).answers ≡ 0

-- why several workers made no report: their number is blamed where there are none or too many, and nowhere else
abbrev pub FailsBy : ℕ → ThreadFault → Type 0
FailsBy workers Workers = ¬ (WorkersMayServe workers)
FailsBy workers _ = WorkersMayServe workers

-- why a script was not served: one worker tells that memory ran out, several tell a fault of theirs
abbrev pub IsUnserved : ℕ → Fault → Type 0
IsUnserved workers (Serve wrong) = (workers ≡ 1) × (wrong ≡ serve.Memory)
IsUnserved workers (Threads wrong) = ¬ (workers ≡ 1) × FailsBy workers wrong
IsUnserved workers _ = ⊥

-- the lines of a report that was made so under a configuration, or those of its answers alone
pub record AreLinesBy (MadeSo : Report → Type 0) (config : Configured) (only_answers : Bool)
    (lines : List ℕ) : Type 0 where
  pub report : Report
  pub served : MadeSo report
  pub are : lines ≡ report_lines (names_of config) only_answers report.history report.answers
