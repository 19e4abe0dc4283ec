-- Who has a seat, before a choice and behind it.
use Rattle.std.proofs.Common.{◌≡◌, ◌⊎◌, inl, inr, ◌∙◌, ◌<◌, ℕ, zero, suc, true, false, List, [], ◌∷◌, length, Option, Some, None, refl, sym, ap, arith, replicate}
use Rattle.std.proofs.lemmas.Bool.Decides.{nat_tests}
use Rattle.std.specs.Prelude.{Bool, nat_eq, slice_get, slice_set}
use Rattle.cl_registry.proofs.Histories.{eq_nat}
use Rattle.cl_registry.proofs.Counts.{get_set_other, get_set_same}
use Rattle.cl_registry.proofs.Schedules.{some_at}
use Rattle.cl_tasks.specs.Tasks.{Tasked}
use Rattle.cl_tasks.specs.declared.turn.Turn.{Turn}
use Rattle.cl_schedule.specs.declared.choices.Room.{Room}
use Rattle.cl_schedule.specs.declared.seats.Seat.{Seat}
use Rattle.cl_schedule.specs.Places.{seat_at, seat_of}
use Rattle.cl_schedule.specs.Rooms.{HasTaken, NoneSeated}
use Rattle.cl_model.proofs.Bind.{some_same}

-- ---- cases

pub bool_cases : (b : Bool) → (b ≡ true) ⊎ (b ≡ false)
bool_cases true = inl refl
bool_cases false = inr refl

pub true_false : (b : Bool) → b ≡ true → b ≡ false → ⊥
true_false b e k = cc

pub same_nat : (q : ℕ) → nat_eq q q ≡ true
same_nat q = grind (arith, nat_tests)

pub same_or_apart : (p q : ℕ) → (p ≡ q) ⊎ (p ≡ q → ⊥)
same_or_apart p q = elim (bool_cases (nat_eq p q)) [
  | inl is ↦ inl (eq_nat p q is)
  | inr apart ↦ inr (λ same. true_false (nat_eq p q) (ap (nat_eq p) (sym same) ∙ same_nat p) apart)
]

pub some_none : {A : Type 0} (o : Option A) (a : A) → o ≡ Some a → o ≡ None → ⊥
some_none o a e k = cc

-- ---- lists

-- what stands at a place after one was set
pub other_set : {A : Type 0} (xs : List A) (q p : ℕ) (a : A) → (p ≡ q → ⊥) → slice_get (slice_set xs q a) p ≡ slice_get xs p
other_set xs q p a other = get_set_other xs q p a (by_cases (bool_cases (nat_eq q p)))
  where
    by_cases : (nat_eq q p ≡ true) ⊎ (nat_eq q p ≡ false) → nat_eq q p ≡ false
    by_cases (inl is) = absurd (other (sym (eq_nat q p is)))
    by_cases (inr apart) = apart

pub same_set : {A : Type 0} (xs : List A) (q : ℕ) (a : A) → q < length xs → slice_get (slice_set xs q a) q ≡ Some a
same_set xs q a below = let x = some_at xs q below in get_set_same xs q a x.0 x.1

pub set_length : {A : Type 0} (xs : List A) (q : ℕ) (a : A) → length (slice_set xs q a) ≡ length xs
set_length [] q a = refl
set_length (x ∷ xs) zero a = refl
set_length (x ∷ xs) (suc q) a = ap (λ (n : ℕ). suc n) (set_length xs q a)

-- nothing stands where nothing was put
none_set : {A : Type 0} (xs : List (Option A)) (q : ℕ) (a : A) → slice_get (slice_set xs q None) q ≡ Some (Some a) → ⊥
none_set [] q a at = cc
none_set (x ∷ xs) zero a at = cc
none_set (x ∷ xs) (suc q) a at = none_set xs q a at

none_first : {A : Type 0} (n q : ℕ) (a : A) → slice_get (replicate n None) q ≡ Some (Some a) → ⊥
none_first zero q a at = cc
none_first (suc n) zero a at = cc
none_first (suc n) (suc q) a at = none_first n q a at

-- ---- seats

pub seat_task : {A : Type 0} (task : Option (Option Tasked)) (call : Option (Option (Turn A))) (s : Seat A) → seat_of task call ≡ Some s → task ≡ Some (Some s.task)
seat_task {A = A} (Some (Some t)) (Some (Some u)) s is = ap (λ (k : Seat A). Some (Some k.task)) (some_same (record { task = t; call = u }) s is)
seat_task other another s is = absurd cc

pub no_seat : {A : Type 0} (task : Option (Option Tasked)) (call : Option (Option (Turn A))) → ((t : Tasked) (u : Turn A) → task ≡ Some (Some t) → call ≡ Some (Some u) → ⊥) → seat_of task call ≡ None
no_seat (Some (Some t)) (Some (Some u)) none = absurd (none t u refl refl)
no_seat other another none = refl

-- before the first choice
pub none_seated : {A : Type 0} (room : Room A) (n : ℕ) → room.calls.items ≡ replicate n None → NoneSeated room
none_seated {A = A} room n calls = λ q. no_seat (slice_get room.tasks.items q) (slice_get room.calls.items q) (λ t u task call. none_first n q u (ap (λ (cs : List (Option (Turn A))). slice_get cs q) (sym calls) ∙ call))

seat_same : {A : Type 0} (old new : Room A) (q : ℕ) → slice_get new.tasks.items q ≡ slice_get old.tasks.items q → slice_get new.calls.items q ≡ slice_get old.calls.items q → seat_at new q ≡ seat_at old q
seat_same {A = A} old new q tasks calls =
    ap (λ (o : Option (Option Tasked)). seat_of o (slice_get new.calls.items q)) tasks
    ∙ ap (λ (o : Option (Option (Turn A))). seat_of (slice_get old.tasks.items q) o) calls

pub same_seats : {A : Type 0} (old new : Room A) → new.tasks.items ≡ old.tasks.items → new.calls.items ≡ old.calls.items → (q : ℕ) → seat_at new q ≡ seat_at old q
same_seats {A = A} old new tasks calls q = seat_same old new q (ap (λ (ts : List (Option Tasked)). slice_get ts q) tasks) (ap (λ (cs : List (Option (Turn A))). slice_get cs q) calls)

-- ---- a request that is taken from its place

other_task : {A : Type 0} (room mid : Room A) (q p : ℕ) → HasTaken room mid q → (p ≡ q → ⊥) → slice_get mid.tasks.items p ≡ slice_get room.tasks.items p
other_task room mid q p taken other = elim taken.tasks [
  | inl same ↦ ap (λ (ts : List (Option Tasked)). slice_get ts p) same
  | inr set ↦ ap (λ (ts : List (Option Tasked)). slice_get ts p) set ∙ other_set room.tasks.items q p None other
]

other_call : {A : Type 0} (room mid : Room A) (q p : ℕ) → HasTaken room mid q → (p ≡ q → ⊥) → slice_get mid.calls.items p ≡ slice_get room.calls.items p
other_call {A = A} room mid q p taken other = ap (λ (cs : List (Option (Turn A))). slice_get cs p) taken.calls ∙ other_set room.calls.items q p None other

pub mid_tasks : {A : Type 0} (room mid : Room A) (q : ℕ) → HasTaken room mid q → length mid.tasks.items ≡ length room.tasks.items
mid_tasks room mid q taken = elim taken.tasks [
  | inl same ↦ ap length same
  | inr set ↦ ap length set ∙ set_length room.tasks.items q None
]

pub mid_calls : {A : Type 0} (room mid : Room A) (q : ℕ) → HasTaken room mid q → length mid.calls.items ≡ length room.calls.items
mid_calls room mid q taken = ap length taken.calls ∙ set_length room.calls.items q None

-- this request has this seat now, or none, each other one has its own, and there are as many places
pub record HasMoved {A : Type 0} (old new : Room A) (q : ℕ) (after : Option (Seat A)) : Type 0 where
  pub here : seat_at new q ≡ after
  pub others : (p : ℕ) → (p ≡ q → ⊥) → seat_at new p ≡ seat_at old p
  pub tasks_whole : length new.tasks.items ≡ length old.tasks.items
  pub calls_whole : length new.calls.items ≡ length old.calls.items

-- it has no seat any more
pub moved_out : {A : Type 0} (room mid done : Room A) (q : ℕ) → HasTaken room mid q → done.tasks.items ≡ mid.tasks.items → done.calls.items ≡ mid.calls.items → HasMoved room done q None
moved_out {A = A} room mid done q taken tasks calls = record {
  here =
      same_seats mid done tasks calls q
      ∙ no_seat (slice_get mid.tasks.items q) (slice_get mid.calls.items q) (λ t u task call. none_set room.calls.items q u (ap (λ (cs : List (Option (Turn A))). slice_get cs q) (sym taken.calls) ∙ call));
  others = λ p other. same_seats mid done tasks calls p ∙ seat_same room mid p (other_task room mid q p taken other) (other_call room mid q p taken other);
  tasks_whole = ap length tasks ∙ mid_tasks room mid q taken;
  calls_whole = ap length calls ∙ mid_calls room mid q taken;
}

-- it has a seat again
pub moved_back : {A : Type 0} (room mid done : Room A) (q : ℕ) (s : Seat A) → HasTaken room mid q → q < length room.tasks.items → q < length room.calls.items
    → done.tasks.items ≡ slice_set mid.tasks.items q (Some s.task) → done.calls.items ≡ slice_set mid.calls.items q (Some s.call) → HasMoved room done q (Some s)
moved_back {A = A} room mid done q s taken in_tasks in_calls tasks calls = record {
  here =
      ap (λ (o : Option (Option Tasked)). seat_of o (slice_get done.calls.items q))
      (ap (λ (ts : List (Option Tasked)). slice_get ts q) tasks ∙ same_set mid.tasks.items q (Some s.task) (let whole = mid_tasks room mid q taken in omega arith))
      ∙ ap (λ (o : Option (Option (Turn A))). seat_of (Some (Some s.task)) o)
      (ap (λ (cs : List (Option (Turn A))). slice_get cs q) calls ∙ same_set mid.calls.items q (Some s.call) (let whole = mid_calls room mid q taken in omega arith));
  others = λ p other. seat_same room done p
      (ap (λ (ts : List (Option Tasked)). slice_get ts p) tasks ∙ other_set mid.tasks.items q p (Some s.task) other ∙ other_task room mid q p taken other)
      (ap (λ (cs : List (Option (Turn A))). slice_get cs p) calls ∙ other_set mid.calls.items q p (Some s.call) other ∙ other_call room mid q p taken other);
  tasks_whole = ap length tasks ∙ set_length mid.tasks.items q (Some s.task) ∙ mid_tasks room mid q taken;
  calls_whole = ap length calls ∙ set_length mid.calls.items q (Some s.call) ∙ mid_calls room mid q taken;
}
