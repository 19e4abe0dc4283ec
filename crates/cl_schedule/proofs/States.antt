-- The state that a registry's history leads to, where it goes on by a step.
use Rattle.std.proofs.Common.{◌≡◌, ◌∙◌, ℕ, List, [], ◌∷◌, Some, refl, sym, ap, subst}
use Rattle.cl_model.specs.Content.{Content}
use Rattle.cl_model.specs.States.{State, recorded_definer, start}
use Rattle.cl_model.specs.Machine.{Step, after, state_after}
use Rattle.cl_model.proofs.Runs.{records_stay}
use Rattle.cl_model.proofs.Views.{state_then}
use Rattle.cl_registry.specs.Tables.{Shown, state_of, records_of, steps, machine}
use Rattle.cl_schedule.specs.Serving.{GoesBy}

pub same_machine : (old new : Shown) (content : Content) → new.config ≡ old.config → new.script ≡ old.script → machine new content ≡ machine old content
same_machine old new content c s = rw (c, s) refl

pub state_goes : (old new : Shown) (e : Step) → GoesBy old new e → state_of new ≡ after (state_of old) e
state_goes old new e h = ap (state_after start) h.step ∙ state_then start (steps old) (e ∷ [])

pub record_stays : (old new : Shown) (e : Step) (loader place : ℕ) (name : List ℕ) → GoesBy old new e → recorded_definer (records_of old) loader name ≡ Some place → recorded_definer (records_of new) loader name ≡ Some place
record_stays old new e loader place name h r =
    subst (λ (s : State). recorded_definer s.records loader name ≡ Some place) (sym (state_goes old new e h))
    (records_stay (state_of old) (e ∷ []) loader place name r)
