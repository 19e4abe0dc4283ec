-- Histories that grow, and the steps that they tell.
use Rattle.std.proofs.Common.{◌≡◌, ◌≢◌, ℕ, List, [], ◌∷◌, ◌++◌, Option, refl, ap, ◌∙◌}
use Rattle.std.specs.List.{AllByRecursion}
use Rattle.cl_model.specs.declared.event.Event as events
use Rattle.cl_model.specs.States.{State, Answer}
use Rattle.cl_model.specs.Machine.{Setting, Step, after, state_after, Run}
use Rattle.cl_model.specs.Views.{answer_at, post_of, step_of, steps_of, IsOther}

pub state_then : (s : State) (es fs : List Step) → state_after s (es ++ fs) ≡ state_after (state_after s es) fs
state_then s [] fs = refl
state_then s (e ∷ es) fs = state_then (after s e) es fs

pub run_then : (g : Setting) (s : State) (es fs : List Step) → Run g s es → Run g (state_after s es) fs → Run g s (es ++ fs)
run_then g s [] fs a b = b
run_then g s (e ∷ es) fs a b = (a.0, run_then g (after s e) es fs a.1 b)

pub run_parts : (g : Setting) (s : State) (es fs : List Step) → Run g s (es ++ fs) → Run g s es × Run g (state_after s es) fs
run_parts g s [] fs a = (tt, a)
run_parts g s (e ∷ es) fs a = let rest = run_parts g (after s e) es fs a.1 in ((a.0, rest.0), rest.1)

-- what a history tells, where it goes on
pub steps_then : (given : List (Option Answer)) (es fs : List events.Event) → steps_of given (es ++ fs) ≡ steps_of given es ++ steps_of given fs
steps_then given [] fs = refl
steps_then given (e ∷ es) fs = ap (λ (x : List Step). step_of given e ∷ x) (steps_then given es fs)

other_step : (given more : List (Option Answer)) (q : ℕ) → ((p : ℕ) → p ≢ q → answer_at more p ≡ answer_at given p) → (e : events.Event) → IsOther q e → step_of more e ≡ step_of given e
other_step given more q h (events.TheVariants.Define c) o = refl
other_step given more q h (events.TheVariants.Initiate c loader) o = refl
other_step given more q h (events.TheVariants.Constrain e) o = refl
other_step given more q h (events.TheVariants.Settle s) o = refl
other_step given more q h (events.TheVariants.Prepare c) o = refl
other_step given more q h events.TheVariants.NextRound o = refl
other_step given more q h (events.TheVariants.Post p) o = ap (λ (x : Option Answer). post_of p x) (h p o)

-- answers that differ at one request alone tell the same of a history in which it is not posted
pub steps_same : (given more : List (Option Answer)) (q : ℕ) → ((p : ℕ) → p ≢ q → answer_at more p ≡ answer_at given p) → (es : List events.Event) → AllByRecursion (IsOther q) es → steps_of more es ≡ steps_of given es
steps_same given more q h [] o = refl
steps_same given more q h (e ∷ es) o =
    ap (λ (x : Step). x ∷ steps_of more es) (other_step given more q h e o.0) ∙ ap (λ (x : List Step). step_of given e ∷ x) (steps_same given more q h es o.1)
