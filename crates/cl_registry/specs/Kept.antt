-- What the type of a registry keeps of its fields.
use Rattle.std.specs.Prelude.{◌≡◌, ◌+◌, ◌≤◌, ◌-◌, ℕ, nat_eq, if◌then◌else◌, List, [], ◌∷◌, length, Option, Some, None, slice_get}
use Rattle.cl_model.specs.declared.answer.Answer.{Answer}
use Rattle.cl_model.specs.declared.class.Class.{Class}
use Rattle.cl_model.specs.declared.need.Equality.{Equality}
use Rattle.cl_model.specs.declared.settled.Settled.{Settled}
use Rattle.cl_model.specs.Content.{Content}
use Rattle.cl_model.specs.States.{State, AllMet}
use Rattle.cl_config.specs.Scripts.{IsScript}
use Rattle.cl_hierarchy.specs.Imposed.{needs_of}
use Rattle.cl_hierarchy.specs.Rows.{Rowed}
use Rattle.cl_registry.specs.Tables.{Shown, IsKept, looked_row, round_of, settled_at, state_of}

-- how many have no answer
abbrev pub left_in : List (Option Answer) → ℕ
left_in [] = 0
left_in (None ∷ more) = left_in more + 1
left_in (Some a ∷ more) = left_in more

-- how many of a round have no answer
abbrev pub open_in : ℕ → List ℕ → List (Option Answer) → ℕ
open_in round [] more = 0
open_in round (r ∷ rs) [] = 0
open_in round (r ∷ rs) (None ∷ more) = (if nat_eq r round then 1 else 0) + open_in round rs more
open_in round (r ∷ rs) (Some a ∷ more) = open_in round rs more

-- the fields of a registry, as plain values
pub record Fields : Type 0 where
  pub table : ℕ → List ℕ → Option Rowed
  pub parts : ℕ
  pub references : Class → ℕ → Option Settled
  pub prepared : List Class
  pub met : List Equality
  pub events : ℕ
  pub room_for_events : ℕ
  pub left : ℕ
  pub unanswered : List ℕ
  pub round : ℕ
  pub filled : ℕ
  pub room : ℕ

-- the tables are what the history leads to, the book of constraints stands for it, the equalities that are kept as met are so, each
-- loader has its part of the rows, of each round it is known how many have no answer, and there is room for what is still to be
-- posted and for the rounds to come
pub record IsRegistry (told : Option Content) (x : Shown) (f : Fields)
    (stands : State → Type 0) : Type 0 where
  pub kept : IsKept told x
  pub script : IsScript x.script
  pub width : f.parts ≡ length x.config.loaders
  pub rows : (loader : ℕ) (name : List ℕ) → f.table loader name ≡ looked_row x loader name
  pub book : stands (state_of x)
  pub references : (c : Class) (index : ℕ) → f.references c index ≡ settled_at x c index
  pub prepared : f.prepared ≡ (state_of x).prepared
  pub met : AllMet (state_of x) (needs_of f.met)
  pub left : f.left ≡ left_in x.answers
  pub counts : (round : ℕ) (n : ℕ) → slice_get f.unanswered round ≡ Some n
      → n ≡ open_in round x.script.rounds_of x.answers
  pub each_round : length f.unanswered ≡ x.script.rounds
  pub round : f.round ≡ round_of x
  pub begun : f.round ≤ x.script.rounds
  pub used : f.events ≡ length x.history
  pub events_fit : f.events + (f.left + (x.script.rounds - (f.round + 1))) ≤ f.room_for_events
  pub empty : f.filled ≡ 0
  pub answers_fit : length x.answers ≤ f.room
