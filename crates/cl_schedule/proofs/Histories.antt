-- How a registry's history goes on by an event, and what it tells then.
use Rattle.std.proofs.Common.{◌≡◌, ◌∙◌, ℕ, List, [], ◌∷◌, ◌++◌, sym, ap}
use Rattle.std.proofs.lemmas.List.{map_push, append-nil}
use Rattle.cl_model.specs.declared.event.Event.{Event}
use Rattle.cl_model.specs.Views.{answers_of, step_of}
use Rattle.cl_hierarchy.specs.Rows.{Rowed}
use Rattle.cl_registry.specs.Tables.{Shown, steps, posts, with_event}
use Rattle.cl_registry.proofs.Histories.{posts_then}
use Rattle.cl_schedule.specs.Serving.{GoesBy}

-- an event that is no post
abbrev pub IsQuiet : Event → Type 0
IsQuiet e = posts (e ∷ []) ≡ []

posts_quiet : (h : List Event) (e : Event) → IsQuiet e → posts (h ++ e ∷ []) ≡ posts h
posts_quiet h e q = posts_then h (e ∷ []) ∙ ap (λ (ps : List ℕ). posts h ++ ps) q ∙ append-nil (posts h)

-- ---- one step more, which is no post

-- an event more that is no post, and perhaps rows
pub goes_by : (old new : Shown) (e : Event) (more : List Rowed) → new ≡ record old { rows = old.rows ++ more; history = old.history ++ e ∷ [] } → IsQuiet e → GoesBy old new (step_of (answers_of old.answers) e)
goes_by old new e more is quiet = record {
  config = ap (λ (x : Shown). x.config) is;
  script = ap (λ (x : Shown). x.script) is;
  answers = ap (λ (x : Shown). x.answers) is;
  posts_same = ap (λ (x : Shown). posts x.history) is ∙ posts_quiet old.history e quiet;
  more = more;
  rows = ap (λ (x : Shown). x.rows) is;
  event = e;
  history = ap (λ (x : Shown). x.history) is;
  step = ap steps is ∙ map_push (step_of (answers_of old.answers)) old.history e;
}

-- an event more, and no row
pub goes_event : (old new : Shown) (e : Event) → new ≡ with_event old e → IsQuiet e → GoesBy old new (step_of (answers_of old.answers) e)
goes_event old new e is quiet = goes_by old new e [] (is ∙ ap (λ (rows : List Rowed). record old { rows = rows; history = old.history ++ e ∷ [] }) (sym (append-nil old.rows))) quiet
