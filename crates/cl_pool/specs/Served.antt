-- Why running threads make no report.
use Rattle.std.specs.Prelude.{◌≡◌, ◌≤◌, ℕ, List, Option}
use Rattle.cl_model.specs.Content.{Content}
use Rattle.cl_config.specs.Views.{Configured, Scripted}
use Rattle.cl_hierarchy.specs.Rows.{Rowed}
use Rattle.cl_registry.specs.declared.report.Report.{Report}
use Rattle.cl_registry.specs.Reports.{IsReported}
use Rattle.cl_registry.specs.Tables.{Shown, IsOpen}
use Rattle.cl_pool.specs.declared.fault.PoolFault.{PoolFault}
use Rattle.cl_pool.specs.declared.fault.PoolFault.TheVariants as faults
use Rattle.cl_pool.specs.declared.limits.TheConstants.{MOST_WORKERS}

-- a report is that of a registry with these rows
pub record IsOfRows (told : Option Content) (r : Report) (rows : List Rowed) : Type 0 where
  pub registry : Shown
  pub reported : IsReported told registry r
  pub rows_are : registry.rows ≡ rows

-- so many workers may serve
pub record WorkersMayServe (workers : ℕ) : Type 0 where
  pub least : 1 ≤ workers
  pub most : workers ≤ MOST_WORKERS

-- a registry that serves this configuration and script, in which a request has no answer
pub record IsUnanswered (config : Configured) (script : Scripted) (x : Shown) : Type 0 where
  pub config_is : x.config ≡ config
  pub script_is : x.script ≡ script
  pub request : ℕ
  pub unanswered : IsOpen x request

-- why workers that were started made no report: one met a stray, or a request has no answer
abbrev pub FailsAs : {A : Type 0} → Configured → Scripted → PoolFault A → Type 0
FailsAs config script faults.Memory = ⊥
FailsAs config script faults.Workers = ⊥
FailsAs config script faults.NoThread = ⊥
FailsAs config script faults.Stray = Unit {0}
FailsAs config script (faults.Unanswered x) = IsUnanswered config script x

-- why there is no report: the workers are blamed where there are none or too many, and nowhere else
abbrev pub RefusedFor : {A : Type 0} → ℕ → Configured → Scripted → PoolFault A → Type 0
RefusedFor workers config script faults.Memory = WorkersMayServe workers
RefusedFor workers config script faults.Workers = WorkersMayServe workers → ⊥
RefusedFor workers config script faults.NoThread = WorkersMayServe workers
RefusedFor workers config script faults.Stray = WorkersMayServe workers
RefusedFor workers config script (faults.Unanswered x) = WorkersMayServe workers
    × IsUnanswered config script x
