-- How much is left at most once a reply was told: turns, and calls (JVMS SE 8, 5.3 to 5.4.3).
use Rattle.std.specs.Prelude.{◌==◌, ◌+◌, ◌-◌, ℕ, if◌then◌else◌, List, [], ◌∷◌, length, Option, Some, None}
use Rattle.cl_model.specs.Works.{Ask}
use Rattle.cl_hierarchy.specs.Imposed.{Listed}
use Rattle.cl_hierarchy.specs.Lineages.{Lined, rows_in}
use Rattle.cl_hierarchy.specs.Paths.{Pathed, frames_of, at_loader, at_name}
use Rattle.cl_tasks.specs.Calls.{Calls, ask_of, away_calls, past_loads, reference_calls, while_loading}
use Rattle.cl_tasks.specs.Measures.{Phase, Fresh, Looking, Reading, Homing, Defining, Initiating, left_at, named_left, reference_left, tracing_own_left, tracing_named_left, imposing_left, prepared_left, whole_left, chain_left, linking_left}
use Rattle.cl_tasks.specs.Stages.{behind, chain_calls, job_calls, list_calls, past_calls, past_left, sought_ask}
use Rattle.cl_tasks.specs.declared.stage.Chain.{Chain}
use Rattle.cl_tasks.specs.declared.stage.Job.{Job}
use Rattle.cl_tasks.specs.declared.stage.Member.{Member}

-- so many turns, and so many calls beside those that the reply was to
pub record Room : Type 0 where
  pub turns : ℕ
  pub made : ℕ
  pub calls : Calls

-- the same with no call made
abbrev pub room_of : ℕ → Calls → Room
room_of turns calls = record { turns = turns; made = 0; calls = calls }

-- the answer alone is left
abbrev pub last_room : Room
last_room = room_of 1 (past_loads 0 0 1)

-- what is found is settled, and then answered (5.4.3)
abbrev pub settle_room : Room
settle_room = room_of 2 (past_loads 0 0 2)

-- ---- loads

-- what is in hand of a name that is looked for, beside its home: the loader that is asked, if it is another (5.3.2)
abbrev pub away_hand : Pathed → ℕ → List Ask
away_hand p place = if at_loader p == place then [] else sought_ask p ∷ []

-- how many turns a job has left (5.3.5)
abbrev pub room_at : {A : Type 0} → Phase → Job A → ℕ → ℕ
room_at phase j probes = past_left j.target + left_at phase (frames_of j.path) probes

-- the calls that a job has left in a phase whose call was answered, where this is the home of what is looked for (5.3, 5.3.5)
abbrev pub calls_at : {A : Type 0} → Phase → Job A → ℕ → Calls
calls_at Fresh j place = job_calls [] [] 1 j
calls_at Looking j place = job_calls (sought_ask j.path ∷ []) [] 0 j
calls_at Reading j place = job_calls (sought_ask j.path ∷ []) [] 0 j
calls_at Homing j place = job_calls (ask_of (at_name j.path) place ∷ []) (away_hand j.path place)
    (away_calls (at_loader j.path) place) j
calls_at Defining j place = job_calls [] (away_hand j.path place)
    (away_calls (at_loader j.path) place) j
calls_at Initiating j place = job_calls [] [] 0 j

-- a job whose look at this home was answered: it found nothing, or what it looked for (5.3)
abbrev pub calls_found : {A B : Type 0} → Job A → ℕ → Option B → Calls
calls_found j place None = calls_at Homing j place
calls_found j place (Some row) = calls_at Defining j place

-- past a load (5.4, 5.4.3)
abbrev pub past_room : {A : Type 0} → Job A → Room
past_room j = room_of (past_left j.target) (past_calls j.request j.target)

-- ---- resolutions

-- the reference was found not to be settled (5.4.3)
abbrev pub reference_room : Room
reference_room = room_of reference_left (while_loading [] [] 1 reference_calls)

-- the class that it names was loaded (5.4.3.1)
abbrev pub named_room : Room
named_room = room_of named_left reference_calls

-- the lineage of the class whose pool has it was had, and that of the class that it names (5.4.3.2 to 5.4.3.4)
abbrev pub tracing_own_room : Room
tracing_own_room = room_of tracing_own_left (past_loads 0 1 3)

abbrev pub tracing_named_room : Room
tracing_named_room = room_of tracing_named_left (past_loads 0 1 2)

-- the equalities of a member before a place are imposed (5.4.3)
abbrev pub imposing_room : {A : Type 0} → Member A → ℕ → Room
imposing_room m place =
    room_of (imposing_left (length m.equalities.value.needs - place) + 1)
    (past_loads 0 0 ((length m.equalities.value.needs - place) + 2))

-- ---- links

-- the class was found to be prepared or not (5.4)
abbrev pub prepared_room : Room
prepared_room = room_of prepared_left (past_loads 2 1 3)

-- its lineage was had (5.4)
abbrev pub whole_room : Room
whole_room = room_of whole_left (past_loads 2 1 2)

-- and how many of the classes above are prepared (5.4)
abbrev pub counted_room : Lined → Room
counted_room whole = room_of (chain_left (length (rows_in whole)) + 1)
    (past_loads 0 0 (chain_calls whole 0 + 1))

-- the classes of the lineage before a place are prepared (5.4)
abbrev pub chain_room : {A : Type 0} → Chain A → Room
chain_room k = room_of (chain_left (behind k) + 1)
    (past_loads 0 0 (chain_calls k.whole k.place + 1))

-- and the lineage of the class at the place was had (5.4.2)
abbrev pub listed_room : {A : Type 0} → Chain A → Room
listed_room k = room_of (chain_left (behind k)) (past_loads 0 0 (chain_calls k.whole k.place))

-- and its equalities before a place are imposed (5.4.2)
abbrev pub linking_room : {A : Type 0} → Chain A → Listed → ℕ → Room
linking_room k e place =
    room_of (linking_left (behind k - 1) (length e.needs - place) + 1)
    (past_loads 0 0 (list_calls k.whole k.place (length e.needs - place)))

-- and it was prepared (5.4.2)
abbrev pub marked_room : {A : Type 0} → Chain A → Room
marked_room k = room_of (linking_left (behind k - 1) 0)
    (past_loads 0 0 (chain_calls k.whole (k.place + 1) + 1))
