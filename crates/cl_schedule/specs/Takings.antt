-- How often a request is taken at most until it has its answer, by what is known of it, while requests take turns (JVMS SE 8, 5.3 to 5.4.3).
use Rattle.std.specs.Prelude.{◌≡◌, ◌+◌, ◌≤◌, ℕ, suc, List, [], ◌∷◌, ◌++◌, Option, Some, None, MatchOption, slice_get, unwrap_or}
use Rattle.cl_config.specs.Loaders.{schedule_of}
use Rattle.cl_model.specs.declared.request.Request.{Request}
use Rattle.cl_model.specs.States.{State, Answer}
use Rattle.cl_model.specs.Machine.{Scheduled, Step, Post}
use Rattle.cl_model.specs.Plans as plans
use Rattle.cl_model.specs.Views.{request_of}
use Rattle.cl_registry.specs.Tables.{Shown, IsOpen, state_of, steps}
use Rattle.cl_schedule.specs.declared.choices.Room.{Room}
use Rattle.cl_schedule.specs.declared.seats.Seat.{Seat}
use Rattle.cl_schedule.specs.Choices.{Piece, first_taken, piece, taken_by, takings}
use Rattle.cl_schedule.specs.Places.{seat_at}

-- a measure of requests: what may be known of one, and how often it is taken at most, by that, until it has its answer
pub record Measure (A : Type 0) : Type 1 where
  -- what may be known of a request
  pub Known : Type 0
  -- it holds of a request in a state
  pub Fits : State → plans.Request → Known → Type 0
  -- so often is a request taken at most in all
  pub all : Known → ℕ
  -- one that has this seat is taken at most so often from then on
  pub Within : State → Request → Known → ℕ → Seat A → Type 0
  -- this answer may be given then
  pub Says : Known → Answer → Type 0

-- a request that has this seat, or was not begun, is taken at most so often from then on
abbrev pub IsTakenWithin : {A : Type 0} (m : Measure A) → State → Request → m.Known → ℕ
    → Option (Seat A) → Type 0
IsTakenWithin m s r k n seat = MatchOption seat (m.all k ≤ n) (m.Within s r k n)

-- the answer of the request of this number was posted, and rounds may have begun behind it
abbrev pub PostsAnswerOf : {A : Type 0} (m : Measure A) → Shown → Shown → ℕ → m.Known → Type 0
PostsAnswerOf m old new q k = (a : Answer) × (rounds : List Step) × m.Says k a
    × (steps new ≡ steps old ++ Post q a ∷ rounds)

-- a request that had this seat, or none, was taken: it has its answer, or is taken once less from then on
abbrev pub ComesNearer : {A : Type 0} → Measure A → Shown → Shown → ℕ → Option (Seat A)
    → Option (Seat A) → Type 0
ComesNearer m old new q before after =
    (r : Request) (k : m.Known) (n : ℕ)
    → slice_get old.script.requests q ≡ Some r → m.Fits (state_of old) (request_of r) k
    → IsTakenWithin m (state_of old) r k (suc n) before
    → MatchOption after (PostsAnswerOf m old new q k) (m.Within (state_of new) r k n)

-- behind these pieces each request is taken no more often in all than was known of it when it was taken first
pub record AreWithin {A : Type 0} (m : Measure A) (x : Shown) (room : Room A)
    (ps : List Piece) : Type 0 where
  -- who was never taken was not begun
  pub untaken : (q : ℕ) → first_taken q ps ≡ None → seat_at room q ≡ None
  -- what was known of a request when it was taken first holds of it still
  pub fits : (q : ℕ) (r : plans.Request) (k : m.Known) (s : State) → first_taken q ps ≡ Some s
      → m.Fits s r k → m.Fits (state_of x) r k
  -- and where it has no answer it is taken at most as often as by that, but for the times that it was
  pub within : (q : ℕ) (r : Request) (k : m.Known) (s : State) (n : ℕ)
      → slice_get x.script.requests q ≡ Some r → IsOpen x q → first_taken q ps ≡ Some s
      → m.Fits s (request_of r) k → m.all k ≤ takings q ps + n
      → IsTakenWithin m (state_of x) r k n (seat_at room q)

-- the answer of whom a choice takes is posted, where by what is known of it it is taken no more often behind this
abbrev pub PostsInTime : {A : Type 0} → Measure A → Shown → Shown → ℕ → List Piece → Type 0
PostsInTime m old new choice ps =
    (q : ℕ) (r : Scheduled) (k : m.Known)
    → taken_by (schedule_of old.script) (state_of old) choice ≡ Some q
    → slice_get (schedule_of old.script) q ≡ Some r
    → m.Fits (unwrap_or (first_taken q ps) (state_of old)) r.request k → m.all k ≤ takings q ps + 1
    → PostsAnswerOf m old new q k

-- behind any pieces a choice keeps that so
abbrev pub ChoiceKeeps : {A : Type 0} → Measure A → Shown → Shown → Room A → Room A → ℕ → Type 0
ChoiceKeeps m old new was now choice =
    (ps : List Piece) → AreWithin m old was ps
    → PostsInTime m old new choice ps
    × ((made rounds : List Step) → AreWithin m new now
    (ps ++ piece (schedule_of old.script) (state_of old) choice made rounds ∷ []))
