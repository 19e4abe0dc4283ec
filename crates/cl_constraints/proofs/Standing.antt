-- What a book stands for along a history.
use Rattle.std.proofs.Common.{◌≡◌, ◌↔◌, ℕ, List, [], ◌∷◌, ◌++◌, Option, Some, None, refl, sym, ap, subst, ◌∙◌}
use Rattle.cl_classfile.specs.Files.{Name}
use Rattle.cl_model.specs.States.{State, start, Record, Equality, Need, Entry, Equal, recorded_definer, Joined, Met, Refused, MayAdd, with_need}
use Rattle.cl_model.specs.Machine.{Step, Define, Initiate, Constrain, Settle, Prepare, Post, NextRound, Stray, after, state_after}
use Rattle.cl_model.proofs.Views.{state_then}
use Rattle.cl_model.proofs.Runs.{violated_as}
use Rattle.cl_constraints.specs.Books.{IsBookOf, Adds}
use Rattle.cl_constraints.specs.Laws.{need_of_step}

module _ (home : Name → ℕ → Option ℕ) (joins : Name → ℕ → ℕ → Type 0) where
  -- a book stands for a state by its records and equalities alone
  pub stands_alike : (s t : State) → t.records ≡ s.records → t.equalities ≡ s.equalities → IsBookOf home joins s → IsBookOf home joins t
  stands_alike s t r e book =
      record {
        records = λ m l. same m l ∙ book.records m l;
        joined = λ m a b. subst (λ (ks : List Equality). joins m a b ↔ Joined ks m a b) (sym e) (book.joined m a b);
        unviolated = λ v. book.unviolated (violated_as s t (sym r) (sym e) v);
      }
    where
      same : (m : Name) (l : ℕ) → recorded_definer t.records l m ≡ recorded_definer s.records l m
      same m l = ap (λ (rs : List Record). recorded_definer rs l m) r

  -- so it stands for the state after a step that adds none
  after_none : (s : State) (e : Step) → need_of_step e ≡ None → IsBookOf home joins s → IsBookOf home joins (after s e)
  after_none s (Define c) h book = absurd cc
  after_none s (Initiate name place loader) h book = absurd cc
  after_none s (Constrain name a b) h book = absurd cc
  after_none s (Settle d i v) h book = stands_alike s (after s (Settle d i v)) refl refl book
  after_none s (Prepare c) h book = stands_alike s (after s (Prepare c)) refl refl book
  after_none s (Post q a) h book = stands_alike s (after s (Post q a)) refl refl book
  after_none s NextRound h book = stands_alike s (after s NextRound) refl refl book
  after_none s Stray h book = book

  pub stays_after : (es : List Step) (e : Step) → need_of_step e ≡ None → IsBookOf home joins (state_after start es) → IsBookOf home joins (state_after start (es ++ e ∷ []))
  stays_after es e h book = subst (λ (s : State). IsBookOf home joins s) (sym (state_then start es (e ∷ []))) (after_none (state_after start es) e h book)

-- a step adds the need that it makes stand
pub after_added : (s : State) (e : Step) (need : Need) → need_of_step e ≡ Some need → after s e ≡ with_need s need
after_added s (Define c) need h = let q : Entry c.loader c.name c.loader ≡ need = cc in ap (with_need s) q
after_added s (Initiate name place loader) need h = let q : Entry loader name place ≡ need = cc in ap (with_need s) q
after_added s (Constrain name a b) need h = let q : Equal name a b ≡ need = cc in ap (with_need s) q
after_added s (Settle d i v) need h = absurd cc
after_added s (Prepare c) need h = absurd cc
after_added s (Post q a) need h = absurd cc
after_added s NextRound need h = absurd cc
after_added s Stray need h = absurd cc

pub goes_on : {B : Type 0} (stands_for : B → State → Type 0) (old new : B) (es : List Step) (e : Step) (need : Need) → need_of_step e ≡ Some need → Adds stands_for old new need → stands_for old (state_after start es) → stands_for new (state_after start (es ++ e ∷ []))
goes_on stands_for old new es e need h adds book =
    subst (λ (s : State). stands_for new s) (sym (state_then start es (e ∷ []) ∙ after_added (state_after start es) e need h)) (adds (state_after start es) book).1

-- an unmet need that is not refused may be added
pub unrefused : (s : State) (need : Need) → (Met s need → ⊥) → (Refused s need → ⊥) → MayAdd s need
unrefused s need unmet free = record { unmet = unmet; fits = λ c. free (record { unmet = unmet; clashes = c }) }
