-- What a report says of the requests that were served, and what was done for one (JVMS SE 8, 5.3 to 5.4.3).
use Rattle.std.specs.Prelude.{◌≡◌, ◌==◌, ℕ, List, [], ◌∷◌, ◌++◌, map, Option, Some, None, count_by, nat_lt, if◌then◌else◌, slice_set}
use Rattle.std.specs.List.{AllByRecursion}
use Rattle.cl_model.specs.declared.answer.Answer as rust
use Rattle.cl_model.specs.declared.event.Event.{Event}
use Rattle.cl_model.specs.declared.request.Request.{Request}
use Rattle.cl_model.specs.Content.{Content}
use Rattle.cl_model.specs.States.{start}
use Rattle.cl_model.specs.Views.{answer_of, request_of}
use Rattle.cl_model.specs.Machine.{Step, Define, Initiate, Constrain, Settle, Prepare, Post, NextRound, Stray}
use Rattle.cl_model.specs.Service.{Serves, AllServed}
use Rattle.cl_registry.specs.declared.report.Report.{Report}
use Rattle.cl_config.specs.Views.{Configured}
use Rattle.cl_hierarchy.specs.Rows.{Rowed}
use Rattle.cl_registry.specs.Tables.{Shown, posts, steps, state_of, machine}
use Rattle.cl_tasks.specs.Blames.{AnswerBlames}
use Rattle.cl_schedule.specs.Blames.{IsAskedFor}

-- how often a number stands in a list
abbrev pub times : ℕ → List ℕ → ℕ
times x xs = count_by (λ y. y == x) xs

-- once where a number is below this one, else never
abbrev pub once_below : ℕ → ℕ → ℕ
once_below x n = if nat_lt x n then 1 else 0

-- a list has each number below this one once, and no other
abbrev pub HasEachBelow : ℕ → List ℕ → Type 0
HasEachBelow n xs = (x : ℕ) → times x xs ≡ once_below x n

-- the registry that a report was made from, but for its rows; each request has its answer
abbrev pub reported_registry : Configured → Report → Shown
reported_registry config r = record {
  config = config;
  script = r.script.value;
  rows = [];
  history = r.history;
  answers = map (λ a. Some a) r.answers;
}

-- the requests are served in order: for each what comes next in its service, one step after another, and then the post of
-- the answer that it comes to, or of a failure after some of these; the next round begins as soon as it may (5.3 to 5.4.3)
abbrev pub InOrder : Option Content → Shown → Type 0
InOrder None x = Unit {0}
InOrder (Some content) x = AllServed (machine x content) 0 start (machine x content).script
    (steps x)

-- ---- what was done for one request

-- the step posts an answer
abbrev pub IsPost : Step → Type 0
IsPost (Define c) = ⊥
IsPost (Initiate name place loader) = ⊥
IsPost (Constrain name a b) = ⊥
IsPost (Settle d i v) = ⊥
IsPost (Prepare c) = ⊥
IsPost (Post q a) = Unit {0}
IsPost NextRound = ⊥
IsPost Stray = ⊥

-- none of these posts an answer
abbrev pub NoPosts : List Step → Type 0
NoPosts es = AllByRecursion (λ e. IsPost e → ⊥) es

-- these steps serve a request, where a content is told (5.3 to 5.4.3)
abbrev pub ServesAs : Option Content → Shown → ℕ → Request → List Step → Type 0
ServesAs None old q r es = Unit {0}
ServesAs (Some content) old q r es = Serves (machine old content) q (request_of r) (state_of old) es

-- a request was served: some steps were made, and then its one answer was posted; nothing else changed but rows (5.3 to 5.4.3)
pub record IsDone (told : Option Content) (old new : Shown) (q : ℕ) (r : Request) : Type 0 where
  pub config : new.config ≡ old.config
  pub script : new.script ≡ old.script
  pub answer : rust.Answer
  pub blames : AnswerBlames old.config (IsAskedFor told old.config r) answer
  pub answers : new.answers ≡ slice_set old.answers q (Some answer)
  pub posted : posts new.history ≡ posts old.history ++ q ∷ []
  pub made : List Step
  pub quiet : NoPosts made
  pub whole : steps new ≡ steps old ++ (made ++ Post q (answer_of answer) ∷ [])
  pub serves : ServesAs told old q r (made ++ Post q (answer_of answer) ∷ [])

-- a registry went on by a step that is no post: rows may be added, and nothing else changed (5.3 to 5.4.3)
pub record GoesBy (old new : Shown) (e : Step) : Type 0 where
  pub config : new.config ≡ old.config
  pub script : new.script ≡ old.script
  pub answers : new.answers ≡ old.answers
  pub posts_same : posts new.history ≡ posts old.history
  pub more : List Rowed
  pub rows : new.rows ≡ old.rows ++ more
  pub event : Event
  pub history : new.history ≡ old.history ++ event ∷ []
  pub step : steps new ≡ steps old ++ e ∷ []
