-- What a registry is once the workers have ended and a request has no answer.
use Rattle.std.proofs.Common.{◌≡◌, ◌⊎◌, inl, inr, ◌∙◌, ℕ, zero, suc, ◌<◌, true, List, [], ◌∷◌, length, Option, Some, None, Result, Ok, Err, refl, sym, arith, is_some}
use Rattle.std.specs.Prelude.{IfErr, OnOk, slice_get}
use Rattle.std.proofs.lemmas.Option.{slice_get_within}
use Rattle.cl_model.specs.declared.answer.Answer as rust
use Rattle.cl_model.specs.Machine.{Scheduled}
use Rattle.cl_model.specs.Views.{answers_of, answer_at}
use Rattle.cl_config.specs.Loaders.{schedule_of}
use Rattle.cl_config.specs.Views.{Configured, Scripted}
use Rattle.cl_registry.specs.Reports.{IsUnfinished}
use Rattle.cl_registry.specs.Tables as tables
use Rattle.cl_registry.specs.Tables.{Shown, IsOpen, IsTrusted}
use Rattle.cl_registry.proofs.Running.{answered}
use Rattle.cl_schedule.proofs.Rounds.{schedule_length}
use Rattle.cl_pool.specs.Served.{FailsAs, IsUnanswered, WorkersMayServe, RefusedFor}
use Rattle.cl_pool.specs.declared.fault.PoolFault.{PoolFault}
use Rattle.cl_pool.specs.declared.fault.PoolFault.TheVariants as faults

-- ---- a request that has no answer

-- a request of these has no answer, or each has one
first_open : (xs : List (Option rust.Answer)) → ((q : ℕ) × (slice_get xs q ≡ Some None)) ⊎ ((q : ℕ) → q < length xs → is_some (answer_at (answers_of xs) q) ≡ true)
first_open [] = inr (λ q below. absurd (omega arith))
first_open (None ∷ xs) = inl (zero, refl)
first_open (Some a ∷ xs) = next (first_open xs)
  where
    next : ((q : ℕ) × (slice_get xs q ≡ Some None)) ⊎ ((q : ℕ) → q < length xs → is_some (answer_at (answers_of xs) q) ≡ true)
        → ((q : ℕ) × (slice_get (Some a ∷ xs) q ≡ Some None)) ⊎ ((q : ℕ) → q < length (Some a ∷ xs) → is_some (answer_at (answers_of (Some a ∷ xs)) q) ≡ true)
    next (inl found) = inl (suc found.0, found.1)
    next (inr all) = inr (later all)
      where
        later : ((q : ℕ) → q < length xs → is_some (answer_at (answers_of xs) q) ≡ true) → (q : ℕ) → q < length (Some a ∷ xs) → is_some (answer_at (answers_of (Some a ∷ xs)) q) ≡ true
        later all zero below = refl
        later all (suc q) below = all q (omega arith)

schedule_within : (x : Shown) (q : ℕ) (e : Scheduled) → IsTrusted x → slice_get (schedule_of x.script) q ≡ Some e → q < length x.answers
schedule_within x q e t at =
    let below = slice_get_within (schedule_of x.script) q e at in
    let size = schedule_length x.script.requests x.script.rounds_of t.script.each in
    let whole = t.whole in
    omega arith

-- where no further round may begin, what is unfinished has a request with no answer
open_one : (x : Shown) → IsTrusted x → (tables.RoundMayBegin x → ⊥) → IsUnfinished x → (q : ℕ) × IsOpen x q
open_one x t over (inl one) = one
open_one x t over (inr later) = found (first_open x.answers)
  where
    found : ((q : ℕ) × (slice_get x.answers q ≡ Some None)) ⊎ ((q : ℕ) → q < length x.answers → is_some (answer_at (answers_of x.answers) q) ≡ true) → (q : ℕ) × IsOpen x q
    found (inl one) = one
    found (inr all) = absurd (over (record { answered = λ q e at same. answered x q t ∙ all q (schedule_within x q e t at); later = later }))

pub is_unanswered : (x : Shown) (c : Configured) (s : Scripted) → IsTrusted x → (tables.RoundMayBegin x → ⊥) → IsUnfinished x → c ≡ x.config → s ≡ x.script → IsUnanswered c s x
is_unanswered x c s t over is config script =
    let one = open_one x t over is in
    record { config_is = sym config; script_is = sym script; request = one.0; unanswered = one.1 }

-- ---- what is answered

-- why there is no report of workers that may serve
pub why_refused : {A : Type 0} (fault : PoolFault A) (workers : ℕ) (c : Configured) (s : Scripted) → WorkersMayServe workers → FailsAs c s fault → RefusedFor workers c s fault
why_refused faults.Memory workers c s may fails = may
why_refused faults.Workers workers c s may fails = absurd fails
why_refused faults.NoThread workers c s may fails = may
why_refused faults.Stray workers c s may fails = may
why_refused (faults.Unanswered x) workers c s may fails = (may, fails)

-- what holds anyhow holds where workers made a report
pub for_report : {A E P : Type 0} (result : Result A E) → P → OnOk result P
for_report (Ok report) holds = holds
for_report (Err fault) holds = tt

-- the same of what the workers came to
pub why_none : {A B : Type 0} (result : Result B (PoolFault A)) (workers : ℕ) (c : Configured) (s : Scripted) → WorkersMayServe workers → IfErr result (FailsAs c s) → IfErr result (RefusedFor workers c s)
why_none (Ok report) workers c s may fails = tt
why_none (Err fault) workers c s may fails = why_refused fault workers c s may fails
