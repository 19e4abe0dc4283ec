-- The places of requests, in which those that were begun wait for their next turn.
use Rattle.std.specs.Prelude.{ℕ, Option, Some, None, slice_get}
use Rattle.cl_tasks.specs.Tasks.{Tasked}
use Rattle.cl_tasks.specs.declared.turn.Turn.{Turn}
use Rattle.cl_schedule.specs.declared.choices.Room.{Room}
use Rattle.cl_schedule.specs.declared.seats.Seat.{Seat}

-- the task and the call of a place are a seat
abbrev pub seat_of : {A : Type 0} → Option (Option Tasked) → Option (Option (Turn A))
    → Option (Seat A)
seat_of (Some (Some t)) (Some (Some u)) = Some (record { task = t; call = u })
seat_of task call = None

-- the seat of the request of this number, if it was begun and has no answer
abbrev pub seat_at : {A : Type 0} → Room A → ℕ → Option (Seat A)
seat_at room q = seat_of (slice_get room.tasks.items q) (slice_get room.calls.items q)
