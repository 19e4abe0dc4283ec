-- What is recorded was defined by a loader of the configuration, and recorded by one.
use Rattle.std.proofs.Common.{◌≡◌, ◌<◌, ℕ, List, [], ◌∷◌, ◌++◌, length, Option, Some, inl, inr, sym, subst}
use Rattle.std.specs.List.{AllByRecursion}
use Rattle.std.proofs.lemmas.List.Elements.{recursion_from_All}
use Rattle.cl_classfile.specs.Files.{Name}
use Rattle.cl_model.specs.declared.event.Event.{Event}
use Rattle.cl_model.specs.declared.event.Event.TheVariants as events
use Rattle.cl_model.specs.States.{State, Record, start, Answer, recorded_definer}
use Rattle.cl_model.specs.Machine.{after, state_after}
use Rattle.cl_model.specs.Texts.{EventNames}
use Rattle.cl_model.specs.Views.{answers_of, answer_at, step_of, steps_of}
use Rattle.cl_model.proofs.Runs.{recorded_added}
use Rattle.cl_registry.specs.Tables.{Shown, records_of, NamesLoaders}
use Rattle.cl_registry.specs.Allowed.{RecordedIsNamed}
use Rattle.cl_registry.proofs.Placed.{post_same, no_record}

-- each record is of one of so many loaders, and of a class of one of these
abbrev AreNamed : ℕ → List Record → Type 0
AreNamed count rs = (loader place : ℕ) (name : Name) → recorded_definer rs loader name ≡ Some place → (loader < count) × (place < count)

named_added : (count : ℕ) (rs : List Record) (r : Record) → AreNamed count rs → r.loader < count → r.place < count → AreNamed count (rs ++ r ∷ [])
named_added count rs r named asked below loader place name at = elim (recorded_added rs r loader place name at) [
  | inl k ↦ named loader place name k
  | inr k ↦ (subst (λ (l : ℕ). l < count) k.0 asked, subst (λ (p : ℕ). p < count) k.2 below)
]

step_named : (count : ℕ) (s : State) (now : List (Option Answer)) (e : Event) → EventNames count e → AreNamed count s.records → AreNamed count (after s (step_of now e)).records
step_named count s now (events.Define c) name named = named_added count s.records (record { loader = c.loader; name = c.name; place = c.loader }) named name name
step_named count s now (events.Initiate c loader) name named = named_added count s.records (record { loader = loader; name = c.name; place = c.loader }) named name.1 name.0
step_named count s now (events.Constrain e) name named = named
step_named count s now (events.Settle r) name named = named
step_named count s now (events.Prepare c) name named = named
step_named count s now events.NextRound name named = named
step_named count s now (events.Post q) name named = subst (AreNamed count) (sym (post_same s q (answer_at now q))) named

all_named : (count : ℕ) (now : List (Option Answer)) (h : List Event) (s : State) → AllByRecursion (EventNames count) h → AreNamed count s.records → AreNamed count (state_after s (steps_of now h)).records
all_named count now [] s names named = named
all_named count now (e ∷ h) s names named = all_named count now h (after s (step_of now e)) names.1 (step_named count s now e names.0 named)

-- the loader of a record, and the one that defined its class
pub record_is_named : (x : Shown) (loader place : ℕ) (name : Name) → NamesLoaders x → recorded_definer (records_of x) loader name ≡ Some place → (loader < length x.config.loaders) × (place < length x.config.loaders)
record_is_named x loader place name names at =
    let count = length x.config.loaders in
    all_named count (answers_of x.answers) x.history start (recursion_from_All (EventNames count) x.history names.history) (λ l p n h. absurd (no_record h)) loader place name at

pub recorded_is_named : RecordedIsNamed
recorded_is_named x loader place name names at = (record_is_named x loader place name names at).1
