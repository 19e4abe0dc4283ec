-- What the events of a registry leave as it is.
use Rattle.std.proofs.Common.{◌≡◌, ◌∙◌, ℕ, Bool, false, if◌then◌else◌, List, [], ◌∷◌, ◌++◌, Option, Some, None, refl, sym, ap, subst}
use Rattle.std.specs.Prelude.{nat_eq, ◌==◌, find, option_map, Contains}
use Rattle.std.specs.List.{list_any}
use Rattle.std.specs.Option.{option_or}
use Rattle.std.proofs.lemmas.List.Folds.{find-append}
use Rattle.cl_classfile.specs.Files.{Name}
use Rattle.cl_model.specs.declared.event.Event.{Event}
use Rattle.cl_model.specs.declared.event.Event.TheVariants as events
use Rattle.cl_model.specs.States.{State, Equality, Posted, Entry, Answer, recorded_definer, answer_to, IsPathBetween, Clashes, MayAdd}
use Rattle.cl_model.specs.Machine.{Define, Initiate, NextRound, after, state_after}
use Rattle.cl_model.specs.Views.{answer_at, post_of, step_of, steps_of}
use Rattle.cl_registry.specs.Tables.{posts}
use Rattle.cl_registry.proofs.Histories.{swap_nat}
use Rattle.cl_model.proofs.Bind.{none_not_some}
use Rattle.cl_model.proofs.Refusals.{no_equality}
use Rattle.std.proofs.lemmas.Bool.{or_parts}

-- ---- equalities

-- without equalities a loader is joined with itself alone
alone : (ks : List Equality) (name : Name) (a : ℕ) (path : List ℕ) (b : ℕ) → ks ≡ [] → IsPathBetween ks name a path b → a ≡ b
alone ks name a [] b e h = h
alone ks name a (c ∷ cs) b e h = absurd (no_equality h.0.equality (subst (λ (x : List Equality). Contains x h.0.equality) e h.0.imposed))

pub no_clash : (s : State) (loader place : ℕ) (name : Name) → s.equalities ≡ [] → recorded_definer s.records loader name ≡ None → Clashes s (Entry loader name place) → ⊥
no_clash s loader place name e fresh k =
    none_not_some (recorded_definer s.records loader name) fresh
    (subst (λ (o : ℕ). recorded_definer s.records o name ≡ Some k.other_place) (sym (alone s.equalities name loader k.joined.path k.other e k.joined.along)) k.recorded_there)

-- a loader that has no record of a name may record it
pub may_add : (s : State) (loader place : ℕ) (name : Name) → s.equalities ≡ [] → recorded_definer s.records loader name ≡ None → MayAdd s (Entry loader name place)
may_add s loader place name e fresh = record { unmet = λ m. none_not_some (recorded_definer s.records loader name) fresh m; fits = λ k. no_clash s loader place name e fresh k }

-- ---- answers

pub or_nothing : {A : Type 0} (o : Option A) → option_or o None ≡ o
or_nothing None = refl
or_nothing (Some x) = refl

find_other : {A : Type 0} (test : A → Bool) (xs : List A) (x : A) → test x ≡ false → find test (xs ++ x ∷ []) ≡ find test xs
find_other test xs x e = find-append test xs (x ∷ []) ∙ ap (λ (b : Bool). option_or (find test xs) (if b then Some x else None)) e ∙ or_nothing (find test xs)

pub post_other : (s : State) (q p : ℕ) (o : Option Answer) → nat_eq p q ≡ false → answer_to (after s (post_of p o)).answers q ≡ answer_to s.answers q
post_other s q p None ne = refl
post_other s q p (Some a) ne = ap (λ (o : Option Posted). option_map (λ r. r.answer) o) (find_other (λ (r : Posted). r.request == q) s.answers (record { request = p; answer = a }) ne)

-- a request that is not posted has no answer more
pub unposted_stays : (now : List (Option Answer)) (h : List Event) (s : State) (q : ℕ) → list_any (nat_eq q) (posts h) ≡ false → answer_to (state_after s (steps_of now h)).answers q ≡ answer_to s.answers q
unposted_stays now [] s q out = refl
unposted_stays now (events.Define c ∷ h) s q out = unposted_stays now h (after s (Define c)) q out
unposted_stays now (events.Initiate c loader ∷ h) s q out = unposted_stays now h (after s (Initiate c.name c.loader loader)) q out
unposted_stays now (events.Constrain e ∷ h) s q out = unposted_stays now h (after s (step_of now (events.Constrain e))) q out
unposted_stays now (events.Settle r ∷ h) s q out = unposted_stays now h (after s (step_of now (events.Settle r))) q out
unposted_stays now (events.Prepare c ∷ h) s q out = unposted_stays now h (after s (step_of now (events.Prepare c))) q out
unposted_stays now (events.NextRound ∷ h) s q out = unposted_stays now h (after s NextRound) q out
unposted_stays now (events.Post p ∷ h) s q out =
    let o = or_parts (nat_eq q p) (list_any (nat_eq q) (posts h)) out in
    unposted_stays now h (after s (post_of p (answer_at now p))) q o.1 ∙ post_other s q p (answer_at now p) (swap_nat p q ∙ o.0)
