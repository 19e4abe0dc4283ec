-- What a book of loading constraints stands for (JVMS SE 8, 5.3.4).
use Rattle.std.specs.Prelude.{◌≡◌, ℕ, ◌↔◌, Option, Bool, true, false}
use Rattle.std.specs.Bool.{FalseIff}
use Rattle.cl_classfile.specs.Files.{Name}
use Rattle.cl_model.specs.States.{State, Need, recorded_definer, Joined, Violated, Met, Refused, with_need}
use Rattle.cl_names.specs.Truth.{Decides}
use Rattle.cl_constraints.specs.declared.fault.BookFault.{BookFault}
use Rattle.cl_constraints.specs.declared.fault.BookFault.TheVariants.{Memory, Violates}

-- these are the records of a state and its joined loaders, and nothing is violated in it (5.3.4)
pub record IsBookOf (home : Name → ℕ → Option ℕ) (joins : Name → ℕ → ℕ → Type 0) (s : State)
    : Type 0 where
  pub records : (name : Name) (loader : ℕ) → recorded_definer s.records loader name
      ≡ home name loader
  pub joined : (name : Name) (a b : ℕ) → joins name a b ↔ Joined s.equalities name a b
  pub unviolated : Violated s → ⊥

-- what holds in each state that a book stands for
abbrev pub Wherever : (State → Type 0) → (State → Type 0) → Type 0
Wherever stands holds = (s : State) → stands s → holds s

-- the answer is who defined the class that a loader records for a name (5.3)
abbrev pub TellsDefiner : (State → Type 0) → ℕ → Name → Option ℕ → Type 0
TellsDefiner stands loader name answer =
    Wherever stands (λ s. recorded_definer s.records loader name ≡ answer)

-- the answer tells whether this holds in each state that a book stands for
abbrev pub TellsOf : (State → Type 0) → Bool → (State → Type 0) → Type 0
TellsOf stands answer holds = Wherever stands (λ s. Decides answer (holds s))

-- the answer tells whether a need is not refused (5.3.4)
abbrev pub Admits : (State → Type 0) → Need → Bool → Type 0
Admits stands need answer = Wherever stands (λ s. FalseIff answer (Refused s need))

-- the answer tells whether a need is refused (5.3.4)
abbrev pub SaysRefused : (State → Type 0) → Need → Bool → Type 0
SaysRefused stands need answer = TellsOf stands answer (λ s. Refused s need)

-- the answer tells whether a need is met (5.3.4)
abbrev pub Meets : (State → Type 0) → Need → Bool → Type 0
Meets stands need answer = TellsOf stands answer (λ s. Met s need)

-- a need is not refused, and is added (5.3.4)
abbrev pub Adds : {B : Type 0} → (B → State → Type 0) → B → B → Need → Type 0
Adds stands_for old new need =
    Wherever (stands_for old) (λ s. (Refused s need → ⊥) × stands_for new (with_need s need))

-- what imposing an equality comes to: it is new and added, or stands already and nothing changes
-- (5.3.4)
abbrev pub AddsUnlessMet : {B : Type 0} → (B → State → Type 0) → B → B → Need → Bool → Type 0
AddsUnlessMet stands_for old new need true =
    Adds stands_for old new need × Meets (stands_for old) need false
AddsUnlessMet stands_for old new need false = (new ≡ old) × Meets (stands_for old) need true

-- a need is blamed exactly where it is refused; running out of memory is told of no refused one
-- (5.3.4)
abbrev pub Blames : (State → Type 0) → Need → BookFault → Type 0
Blames stands need Violates = Wherever stands (λ s. Refused s need)
Blames stands need Memory = Wherever stands (λ s. Refused s need → ⊥)
