-- The lines of a report.
use Rattle.std.specs.Prelude.{ℕ, Bool, List, [], ◌∷◌, ◌++◌, if◌then◌else◌}
use Rattle.std.specs.List.{enumerate_from, flat_map}
use Rattle.cl_model.specs.declared.event.Event.{Event}
use Rattle.cl_model.specs.declared.answer.Answer.{Answer}
use Rattle.cl_model.specs.Lines.{ended_line, answer_line, step_line}
use Rattle.cl_model.specs.Views.{answer_of, step_of}

-- the line of the step that an event tells, where it has one; a post has none, whatever its answer
abbrev pub event_line : List (List ℕ) → Event → List ℕ
event_line loaders event = step_line loaders (step_of [] event)

-- the line of each event in turn
abbrev pub history_lines : List (List ℕ) → List Event → List ℕ
history_lines loaders events = flat_map (event_line loaders) events

-- the line of an answer, by the place of its request, counted from 0
abbrev pub numbered_line : List (List ℕ) → ℕ → Answer → List ℕ
numbered_line loaders place answer = ended_line (answer_line loaders place (answer_of answer))

-- the line of each answer in turn
abbrev pub answer_lines : List (List ℕ) → List Answer → List ℕ
answer_lines loaders answers =
    flat_map (λ p. numbered_line loaders p.0 p.1) (enumerate_from 0 answers)

-- the history, unless the answers alone are wanted, and then the answers
abbrev pub report_lines : List (List ℕ) → Bool → List Event → List Answer → List ℕ
report_lines loaders only_answers events answers =
    history_lines loaders (if only_answers then [] else events) ++ answer_lines loaders answers
