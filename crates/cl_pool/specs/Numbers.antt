-- What a seat knows, and the rule of the one word from which the numbers of requests are drawn.
use Rattle.std.specs.Prelude.{◌≡◌, ℕ, ◌+◌, ◌-◌, ◌<◌, ◌≤◌, List, [], ◌∷◌, ◌++◌, nat_le, sum_by, count_by}
use mathlib.Core.Option.{some}
use lib.ListN.{get_elem?}
use Rattle.atomic_table.specs.Table.{State, Step, Me}
use Rattle.cl_schedule.specs.Serving.{HasEachBelow, once_below, times}
use Rattle.cl_pool.specs.declared.hand.Hand.{Hand}
use Rattle.cl_pool.specs.declared.hand.Bounds.{Bounds}

-- how many numbers of a list are past the last request
abbrev pub past : ℕ → List ℕ → ℕ
past requests xs = count_by (λ y. nat_le requests y) xs

-- each number of a list is below this one
abbrev pub AllBelow : ℕ → List ℕ → Type 0
AllBelow n xs = (x : ℕ) → n ≤ x → times x xs ≡ 0

-- ---- what a seat knows

-- what the first seat knows
abbrev pub first_hand : Bounds → Hand
first_hand k = record { of = k; drawn = []; parts = 1; splits = k.workers - 1 }

-- what a seat knows that was split off from this one
abbrev pub new_hand : Hand → Hand
new_hand v = record { of = v.of; drawn = []; parts = 1; splits = 0 }

-- what a seat knows once another was split off
abbrev pub one_split_less : Hand → Hand
one_split_less v = record { of = v.of; drawn = v.drawn; parts = v.parts; splits = v.splits - 1 }

-- what a seat knows once it has drawn this number
abbrev pub after_draw : Hand → ℕ → Hand
after_draw v n = record { of = v.of; drawn = v.drawn ++ n ∷ []; parts = v.parts; splits = v.splits }

-- what a seat knows once it took another in
abbrev pub both : Hand → Hand → Hand
both v w = record {
  of = v.of;
  drawn = v.drawn
      ++ w.drawn;
  parts = v.parts + w.parts;
  splits = v.splits + w.splits;
}

-- what is left of a seat that was taken in
abbrev pub spent : Hand
spent = record { of = record { requests = 0; workers = 0 }; drawn = []; parts = 0; splits = 0 }

-- a seat stands for all seats, those included that may still be split off
abbrev pub StandsForAllSeats : Hand → Type 0
StandsForAllSeats v = v.parts + v.splits ≡ v.of.workers

-- ---- the rule

-- of one seat: no more of its numbers are past the last request than it stands for; one that stands for none has no number
-- and no split
pub record IsFair (k : Bounds) (v : Hand) : Type 0 where
  pub few_past : past k.requests v.drawn ≤ v.parts
  pub empty : v.parts ≡ 0 → v.drawn ≡ []
  pub none_left : v.parts ≡ 0 → v.splits ≡ 0

-- of all seats: together they stand for the workers, and have each number below the word once
pub record IsShared (k : Bounds) (n : ℕ) (views : List Hand) : Type 0 where
  pub whole : sum_by (λ v. v.parts + v.splits) views ≡ k.workers
  pub once : (x : ℕ) → sum_by (λ v. times x v.drawn) views ≡ once_below x n
  pub beyond : sum_by (λ v. past k.requests v.drawn) views ≡ n - k.requests
  pub each : (id : ℕ) (v : Hand) → get_elem? views id ≡ some v → IsFair k v

-- what a seat is told that drew a number: it had lower ones alone, the number is below the requests and workers, and a seat
-- that stands for all has each number up to it once
pub record DrawsNumber (v w : Hand) (n : ℕ) : Type 0 where
  pub hand : w ≡ after_draw v n
  pub later : AllBelow n v.drawn
  pub most : n < v.of.requests + v.of.workers
  pub all : StandsForAllSeats v → HasEachBelow (n + 1) w.drawn

-- what a seat is told that looked at the word: it stands for no more than the workers, and one that stands for all has each
-- number below the word once
pub record LooksAt (v w : Hand) (n : ℕ) : Type 0 where
  pub hand : w ≡ v
  pub most : v.parts + v.splits ≤ v.of.workers
  pub all : StandsForAllSeats v → HasEachBelow n v.drawn

module _ {S : Type 0} where
  -- the numbers that were drawn are those below the word, each by one seat
  abbrev pub Drawn : Bounds → State S Hand → Type 0
  Drawn k s = (n : ℕ) × (s.words ≡ n ∷ []) × IsShared k n s.views

  abbrev pub PlaysDraw : Step S → Me S Hand → ℕ → Me S Hand → Type 0
  PlaysDraw s v n w = (w.1 ≡ v.1) × DrawsNumber v.0 w.0 n

  abbrev pub PlaysLook : Step S → Me S Hand → ℕ → Me S Hand → Type 0
  PlaysLook s v n w = (w.1 ≡ v.1) × LooksAt v.0 w.0 n
