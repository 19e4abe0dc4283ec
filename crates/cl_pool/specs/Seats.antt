-- What contracts see of a word and of its seats.
use Rattle.std.specs.Prelude.{◌≡◌, ◌<◌, ◌≤◌, ℕ}
use Rattle.atomic_table.specs.Seated.{TableId}
use Rattle.cl_pool.specs.declared.hand.Hand.{Hand}
use Rattle.cl_pool.specs.declared.hand.Bounds.{Bounds}
use Rattle.cl_schedule.specs.Serving.{HasEachBelow}
use Rattle.cl_pool.specs.Numbers.{DrawsNumber, StandsForAllSeats, past}

-- a seat: of which word it is, and what it knows
pub record Seated : Type 0 where
  pub word : TableId
  pub hand : Hand

-- a word, and its bounds
pub record Drawing : Type 0 where
  pub word : TableId
  pub of : Bounds

abbrev pub bounds : ℕ → ℕ → Bounds
bounds requests workers = record { requests = requests; workers = workers }

-- the seat is one of this word
pub record IsSeatOf (d : Drawing) (s : Seated) : Type 0 where
  pub word : s.word ≡ d.word
  pub of : s.hand.of ≡ d.of

-- fewer of the seat's numbers are past the last request than it stands for: a seat that took none in was not answered `None`
abbrev pub MayDraw : Seated → Type 0
MayDraw s = past s.hand.of.requests s.hand.drawn < s.hand.parts

-- the seat drew this number
abbrev pub Drew : Seated → Seated → ℕ → Type 0
Drew old new n = DrawsNumber old.hand new.hand n

-- the seat drew a number that is past the last request
pub record Missed (old new : Seated) : Type 0 where
  pub number : ℕ
  pub drew : Drew old new number
  pub beyond : old.hand.of.requests ≤ number

-- a seat that stands for all has each number below the word once, and no other
pub record HoldsEach (s : Seated) : Type 0 where
  pub word : ℕ
  pub each : HasEachBelow word s.hand.drawn

-- the seat does so once it stands for all
abbrev pub HoldsAll : Seated → Type 0
HoldsAll s = StandsForAllSeats s.hand → HoldsEach s
