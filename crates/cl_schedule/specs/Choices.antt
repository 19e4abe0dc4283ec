-- Requests of a round that are served in turns, as a schedule chooses among them (JVMS SE 8, 5.3 to 5.4.3).
use Rattle.std.specs.Prelude.{◌≡◌, ◌≤◌, ◌+◌, ◌&&◌, ◌%◌, ℕ, suc, Bool, false, List, [], ◌∷◌, ◌++◌, length, replicate, Option, Some, None, is_none, nat_eq, if◌then◌else◌, slice_get}
use Rattle.cl_config.specs.Views.{Configured, Scripted}
use Rattle.cl_model.specs.Content.{Content}
use Rattle.cl_model.specs.States.{State, answer_to, start, Verdict, Answer}
use Rattle.cl_model.specs.Machine.{Setting, Scheduled, Step, IsPlan, state_after, Post}
use Rattle.cl_model.specs.Plans.{Plan, cost}
use Rattle.cl_model.specs.Service.{IsPiece, PassesRounds}
use Rattle.cl_registry.specs.declared.report.Report.{Report}
use Rattle.cl_registry.specs.Tables.{Shown, steps, machine}
use Rattle.cl_schedule.specs.Blames.{EachBlames}
use Rattle.cl_schedule.specs.Headline.{IsServed}
use Rattle.cl_schedule.specs.Known.{HasVerdict, SaysOrLacks}
use Rattle.cl_schedule.specs.Serving.{reported_registry}

-- ---- who waits

-- a request of this number is of the round, and has no answer yet
abbrev pub is_waiting : State → ℕ → Scheduled → Bool
is_waiting s q r = nat_eq r.round s.round && is_none (answer_to s.answers q)

-- of these requests, the first of which has this number, the numbers of those that wait
abbrev pub waiting_from : State → ℕ → List Scheduled → List ℕ
waiting_from s q [] = []
waiting_from s q (r ∷ rs) = if is_waiting s q r then q
    ∷ waiting_from s (suc q) rs else waiting_from s (suc q) rs

-- the numbers of the requests of the round that have no answer yet, in order
abbrev pub waiting_requests : List Scheduled → State → List ℕ
waiting_requests script s = waiting_from s 0 script

-- ---- choices

-- whom a choice takes: of k requests that wait, the one at the place which the choice leaves modulo k
abbrev pub taken_by : List Scheduled → State → ℕ → Option ℕ
taken_by script s choice = slice_get (waiting_requests script s)
    (choice % length (waiting_requests script s))

-- a choice takes this request
pub record Takes (g : Setting) (s : State) (choice q : ℕ) (r : Scheduled) : Type 0 where
  pub waits : taken_by g.script s choice ≡ Some q
  pub asked : slice_get g.script q ≡ Some r

-- a choice makes no step, or one piece of the service of the request that it takes: the next step of it, or its post
abbrev pub Chooses : Setting → State → ℕ → List Step → Type 0
Chooses g s choice [] = Unit {0}
Chooses g s choice (e ∷ []) = (q : ℕ) × (r : Scheduled) × Takes g s choice q r
    × IsPiece g s q r.request e
Chooses g s choice (e ∷ more) = ⊥

-- ---- pieces

-- the piece of a history that belongs to one choice: whom the choice took, if one waited, the state in which it did, the steps that it
-- made, and the rounds that began behind them
pub record Piece : Type 0 where
  pub taken : Option ℕ
  pub state : State
  pub made : List Step
  pub rounds : List Step

-- the piece of a choice in a state, with these steps and these rounds
abbrev pub piece : List Scheduled → State → ℕ → List Step → List Step → Piece
piece script s choice made rounds = record {
  taken = taken_by script s choice;
  state = s;
  made = made;
  rounds = rounds;
}

-- it is what a choice may do in a state: what it makes, and then the rounds that may begin
pub record IsPieceOf (g : Setting) (s : State) (choice : ℕ) (p : Piece) : Type 0 where
  pub is : p ≡ piece g.script s choice p.made p.rounds
  pub made : Chooses g s choice p.made
  pub passed : PassesRounds g (state_after s p.made) p.rounds

-- these pieces are those of the choices, one after another
abbrev pub Plays : Setting → State → List ℕ → List Piece → Type 0
Plays g s [] [] = Unit {0}
Plays g s [] (p ∷ ps) = ⊥
Plays g s (choice ∷ choices) [] = ⊥
Plays g s (choice ∷ choices) (p ∷ ps) = IsPieceOf g s choice p
    × Plays g (state_after (state_after s p.made) p.rounds) choices ps

-- the steps of pieces, in order
abbrev pub steps_in : List Piece → List Step
steps_in [] = []
steps_in (p ∷ ps) = p.made ++ (p.rounds ++ steps_in ps)

-- ---- a request whose verdict the tables have

-- this is the number of a request that was taken
abbrev pub is_of : ℕ → Option ℕ → Bool
is_of q None = false
is_of q (Some p) = nat_eq p q

-- in how many pieces a request was taken
abbrev pub takings : ℕ → List Piece → ℕ
takings q [] = 0
takings q (p ∷ ps) = if is_of q p.taken then suc (takings q ps) else takings q ps

-- the state in which a request was taken first, if it was
abbrev pub first_taken : ℕ → List Piece → Option State
first_taken q [] = None
first_taken q (p ∷ ps) = if is_of q p.taken then Some p.state else first_taken q ps

-- where a piece takes a request that was taken twice before, and the tables had its verdict when it was taken first, its answer is
-- posted: that verdict, or out of memory (5.3, 5.4.2, 5.4.3)
abbrev pub IsPrompt : List Scheduled → List Piece → Piece → Type 0
IsPrompt script before p =
    (q : ℕ) (r : Scheduled) (s : State) (v : Verdict)
    → p.taken ≡ Some q → 2 ≤ takings q before → slice_get script q ≡ Some r
    → first_taken q before ≡ Some s → HasVerdict s r.request v
    → (a : Answer) × SaysOrLacks v a × (p.made ≡ Post q a ∷ [])

-- so it is with each piece: a request whose verdict the tables have when it is taken first has its answer by its third taking
abbrev pub ArePrompt : List Scheduled → List Piece → Type 0
ArePrompt script pieces = (before behind : List Piece) (p : Piece) → pieces ≡ before ++ p ∷ behind
    → IsPrompt script before p

-- ---- a request that is taken as often as it costs

-- where a piece takes a request that was taken before as often as its plan costs but once, its answer is posted (5.3 to 5.4.3)
abbrev pub IsInTime : Setting → List Piece → Piece → Type 0
IsInTime g before p =
    (q : ℕ) (r : Scheduled) (plan : Plan)
    → p.taken ≡ Some q → slice_get g.script q ≡ Some r → IsPlan g.world r.request plan
    → cost g.world plan ≤ takings q before + 1
    → (a : Answer) × (p.made ≡ Post q a ∷ [])

-- so it is with each piece: a request that was taken as often as its plan costs has its answer by then, whatever the others did between
abbrev pub AreInTime : Setting → List Piece → Type 0
AreInTime g pieces = (before behind : List Piece) (p : Piece) → pieces ≡ before ++ p ∷ behind
    → IsInTime g before p

-- ---- the history of a schedule

-- a history is that of these choices: the rounds that may begin, then the pieces of the choices. A request whose verdict the tables
-- have when it is taken first has its answer by its third taking, and each has its own once it was taken as often as its plan costs
pub record IsPlayedBy (g : Setting) (choices : List ℕ) (es rounds : List Step)
    (pieces : List Piece) : Type 0 where
  pub whole : es ≡ rounds ++ steps_in pieces
  pub passed : PassesRounds g start rounds
  pub played : Plays g (state_after start rounds) choices pieces
  pub prompt : ArePrompt g.script pieces
  pub in_time : AreInTime g pieces

-- a history is that of a schedule: after the last choice the first request that waits is taken again and again, so that what is left
-- is served in order
pub record IsPlayed (g : Setting) (schedule : List ℕ) (es : List Step) : Type 0 where
  pub rounds : List Step
  pub pieces : List Piece
  pub more : ℕ
  pub by : IsPlayedBy g (schedule ++ replicate more 0) es rounds pieces

-- ---- the report

-- the report's history is that of the schedule, where a content is told
abbrev pub PlayedAs : Option Content → Shown → List ℕ → Type 0
PlayedAs None x schedule = Unit {0}
PlayedAs (Some content) x schedule = IsPlayed (machine x content) schedule (steps x)

-- the report of a script that was served as a schedule chose: the headline, the way that its history went, and whom a fault of the source
-- blames (5.3 to 5.4.3)
pub record IsSimulated (told : Option Content) (config : Configured) (script : Scripted)
    (schedule : List ℕ) (r : Report) : Type 0 where
  pub served : IsServed told config script r
  pub played : PlayedAs told (reported_registry config r) schedule
  pub blames : EachBlames told (reported_registry config r)
