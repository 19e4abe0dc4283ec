-- Equalities that are known to be met.
use Rattle.std.proofs.Common.{◌≡◌, ◌++◌, ◌∷◌, inl, inr, [], ℕ, zero, suc, List, Option, Some, sym, subst, take}
use Rattle.std.specs.Prelude.{slice_get}
use Rattle.cl_model.specs.declared.need.Equality.{Equality}
use Rattle.cl_model.specs.Content.{Content}
use Rattle.cl_model.specs.States.{AllMet, Met, Need, State}
use Rattle.cl_model.specs.Machine.{Step, after}
use Rattle.cl_model.proofs.Runs.{met_stays}
use Rattle.cl_model.proofs.Bind.{some_same}
use Rattle.cl_hierarchy.specs.Imposed.{equal_need, needs_of}
use Rattle.cl_registry.specs.Imposing.{IsNotedAt, StandsWith}
use Rattle.cl_registry.specs.Kept.{Fields, IsRegistry}
use Rattle.cl_registry.specs.Tables.{Shown, state_of}
use Rattle.std.proofs.lemmas.Option.{none-some}

-- what is met stays so, by a step
pub met_after : (s t : State) (e : Step) (ns : List Need) → t ≡ after s e → AllMet s ns → AllMet t ns
met_after s t e [] is h = tt
met_after s t e (n ∷ ns) is h = (subst (λ (u : State). Met u n) (sym is) (met_stays s (e ∷ []) n h.0), met_after s t e ns is h.1)

-- an equality of a loader with itself is met
pub met_alone : (s : State) (e : Equality) → e.one ≡ e.other → Met s (equal_need e)
met_alone s e is = record { path = []; along = is }

-- and so is one of those that are
pub met_known : (s : State) (known : List Equality) (place : ℕ) (e : Equality) → slice_get known place ≡ Some e → AllMet s (needs_of known) → Met s (equal_need e)
met_known s [] place e at h = absurd (none-some e at)
met_known s (x ∷ known) zero e at h = subst (λ (y : Equality). Met s (equal_need y)) (some_same x e at) h.0
met_known s (x ∷ known) (suc place) e at h = met_known s known place e at h.1

-- one that is met stands behind the first of those that are
taken : (s : State) (known : List Equality) (place : ℕ) (e : Equality) → AllMet s (needs_of known) → Met s (equal_need e) → AllMet s (needs_of (take place known ++ e ∷ []))
taken s known zero e h one = (one, tt)
taken s [] (suc place) e h one = (one, tt)
taken s (x ∷ known) (suc place) e h one = (h.0, taken s known place e h.1 one)

pub met_noted : (s : State) (old : List Equality) (place : ℕ) (e : Equality) (new : List Equality) → IsNotedAt old place e new → AllMet s (needs_of old) → Met s (equal_need e) → AllMet s (needs_of new)
met_noted s old place e new (inl same) h one = subst (λ (es : List Equality). AllMet s (needs_of es)) (sym same) h
met_noted s old place e new (inr is) h one = subst (λ (es : List Equality). AllMet s (needs_of es)) (sym is) (taken s old place e h one)

-- a book stands for a state in which those that are kept are met
pub standing_with : {stands : State → Type 0} (s : State) (known kept : List Equality) → known ≡ kept → stands s → AllMet s (needs_of kept) → StandsWith stands known s
standing_with s known kept same stood h = record { stood_for = stood; met = subst (λ (es : List Equality). AllMet s (needs_of es)) (sym same) h }

-- a registry that keeps others as met
pub kept_known : {stands : State → Type 0} (told : Option Content) (x : Shown) (f : Fields) (known : List Equality) → IsRegistry told x f stands → AllMet (state_of x) (needs_of known) → IsRegistry told x (record f { met = known }) stands
kept_known told x f known k met = record {
  kept = k.kept;
  script = k.script;
  width = k.width;
  rows = k.rows;
  book = k.book;
  references = k.references;
  prepared = k.prepared;
  met = met;
  left = k.left;
  counts = k.counts;
  each_round = k.each_round;
  round = k.round;
  begun = k.begun;
  used = k.used;
  events_fit = k.events_fit;
  empty = k.empty;
  answers_fit = k.answers_fit;
}
