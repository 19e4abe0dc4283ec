-- What a book stands for along a history of the linkage machine (JVMS SE 8, 5.3, 5.3.4): laws, each
-- the contract of a function without a body.
use Rattle.std.specs.Prelude.{◌≡◌, List, [], ◌∷◌, ◌++◌, Option, Some, None}
use Rattle.cl_model.specs.States.{State, start, Need, Entry, Equal, entry_for, Met, Refused, MayAdd}
use Rattle.cl_model.specs.Machine.{
  Step,
  Define,
  Initiate,
  Constrain,
  Settle,
  Prepare,
  Post,
  NextRound,
  Stray,
  state_after,
}
use Rattle.cl_constraints.specs.Books.{Adds}

-- the need that a step makes stand, if it is one that adds a record or an equality (5.3, 5.3.4)
abbrev pub need_of_step : Step → Option Need
need_of_step (Define c) = Some (entry_for c.loader c)
need_of_step (Initiate name place loader) = Some (Entry loader name place)
need_of_step (Constrain name a b) = Some (Equal name a b)
need_of_step (Settle d i v) = None
need_of_step (Prepare c) = None
need_of_step (Post q a) = None
need_of_step NextRound = None
need_of_step Stray = None

-- a book stands for each state with these records and equalities (5.3, 5.3.4)
abbrev pub StandsAlike : {B : Type 0} → (B → State → Type 0) → Type 0
StandsAlike {B} stands_for =
    (book : B) (s t : State) → t.records ≡ s.records → t.equalities ≡ s.equalities
    → stands_for book s → stands_for book t

-- a book stands for the state after a step that adds neither record nor equality (5.4.2, 5.4.3)
abbrev pub StaysAfter : {B : Type 0} → (B → State → Type 0) → Type 0
StaysAfter {B} stands_for =
    (book : B) (es : List Step) (e : Step) → need_of_step e ≡ None
    → stands_for book (state_after start es) → stands_for book (state_after start (es ++ e ∷ []))

-- what a need was added to stands for the state after the step that adds it (5.3, 5.3.4)
abbrev pub FollowsSteps : {B : Type 0} → (B → State → Type 0) → Type 0
FollowsSteps {B} stands_for =
    (old new : B) (es : List Step) (e : Step) (need : Need) → need_of_step e ≡ Some need
    → Adds stands_for old new need → stands_for old (state_after start es)
    → stands_for new (state_after start (es ++ e ∷ []))

-- an unmet need that is not refused may be added (5.3.4)
abbrev pub UnrefusedMayBeAdded : Type 0
UnrefusedMayBeAdded =
    (s : State) (need : Need) → (Met s need → ⊥) → (Refused s need → ⊥) → MayAdd s need
