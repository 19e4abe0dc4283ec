-- What the state of a registry's history holds: the answers that are posted, the records of what is defined.
use Rattle.std.proofs.Common.{◌≡◌, inl, inr, ◌∙◌, ℕ, Bool, true, false, List, [], ◌∷◌, ◌++◌, Option, Some, None, refl, sym, ap, subst, is_some, if◌then◌else◌, length}
use Rattle.std.specs.Prelude.{◌||◌, ◌&&◌, ◌==◌, nat_eq, find, option_map, All, IfSome, map, replicate}
use Rattle.std.specs.Option.{option_or}
use Rattle.std.specs.List.{AllByRecursion, list_any}
use Rattle.std.proofs.lemmas.List.Folds.{find-append}
use Rattle.std.proofs.lemmas.List.Elements.{All-nil, All-push, All-same, All-replicate, All-from_recursion, recursion_from_All}
use Rattle.cl_classfile.specs.Files.{Name}
use Rattle.cl_model.specs.declared.class.Class.{Class}
use Rattle.cl_model.specs.declared.event.Event.{Event}
use Rattle.cl_model.specs.declared.event.Event.TheVariants as events
use Rattle.cl_model.specs.declared.answer.Answer as rust
use Rattle.cl_model.specs.Classes.{class}
use Rattle.cl_model.specs.Texts.{AnswerNames, EventNames, VerdictNames}
use Rattle.cl_model.specs.States.{State, start, Record, IsRecorded, Posted, Need, Entry, Answer, recorded_definer, answer_to, Met, MayAdd, Refused}
use Rattle.cl_model.specs.Machine.{Scheduled, Define, Initiate, NextRound, after, state_after}
use Rattle.cl_model.specs.Tables.{Orderly, MayRecord}
use Rattle.cl_model.specs.Views.{answers_of, answer_at, post_of, step_of, steps_of}
use Rattle.cl_model.proofs.Runs.{recorded_added, record_found, run_later}
use Rattle.cl_registry.specs.declared.report.Report.{Report}
use Rattle.cl_registry.specs.Reports.{IsReport, IsNamed}
use Rattle.cl_registry.specs.Tables.{Shown, state_of, posts, defined_classes, settlements, IsTrusted, NamesLoaders}
use Rattle.cl_registry.proofs.Histories.{eq_nat, swap_nat, or_right}
use Rattle.cl_registry.proofs.Placed.{post_same}
use Rattle.cl_model.proofs.Bind.{none_not_some}

-- ---- what may be recorded

-- what has no record and is not refused may be recorded
pub may_record : (s : State) (l p : ℕ) (name : Name) → recorded_definer s.records l name ≡ None → (Refused s (Entry l name p) → ⊥) → MayRecord s l p name
may_record s l p name fresh free =
    record { fresh = fresh; fits = λ k. free (record { unmet = λ m. none_not_some (recorded_definer s.records l name) fresh m; clashes = k }) }

-- and is a need that may be added
pub may_add : (s : State) (l p : ℕ) (name : Name) → recorded_definer s.records l name ≡ None → (Refused s (Entry l name p) → ⊥) → MayAdd s (Entry l name p)
may_add s l p name fresh free =
    let unmet : Met s (Entry l name p) → ⊥ = λ m. none_not_some (recorded_definer s.records l name) fresh m in
    record { unmet = unmet; fits = λ k. free (record { unmet = unmet; clashes = k }) }

-- what may be added is not refused
pub may_be_added : (s : State) (n : Need) → MayAdd s n → Refused s n → ⊥
may_be_added s n may refused = may.fits refused.clashes

-- ---- the answers of the state are those that are given

pub is_or : (o : Option Posted) (r : Posted) (b : Bool) → is_some (option_map (λ (p : Posted). p.answer) (option_or o (if b then Some r else None))) ≡ (is_some (option_map (λ (p : Posted). p.answer) o) || (b && true))
is_or (Some x) r b = refl
is_or None r true = refl
is_or None r false = refl

and_false : (b : Bool) → (b && false) ≡ false
and_false true = refl
and_false false = refl

-- who has an answer after a post
post_adds : (s : State) (q p : ℕ) (o : Option Answer) → is_some (answer_to (after s (post_of p o)).answers q) ≡ (is_some (answer_to s.answers q) || (nat_eq q p && is_some o))
post_adds s q p None = sym (ap (λ (b : Bool). is_some (answer_to s.answers q) || b) (and_false (nat_eq q p)) ∙ or_right (is_some (answer_to s.answers q)))
post_adds s q p (Some a) =
    ap (λ (o : Option Posted). is_some (option_map (λ (r : Posted). r.answer) o)) (find-append (λ (r : Posted). r.request == q) s.answers (record { request = p; answer = a } ∷ []))
    ∙ is_or (find (λ (r : Posted). r.request == q) s.answers) (record { request = p; answer = a }) (nat_eq p q)
    ∙ ap (λ (b : Bool). is_some (answer_to s.answers q) || (b && true)) (swap_nat p q)

same_given : (now : List (Option Answer)) (q p : ℕ) (b : Bool) → nat_eq q p ≡ b → (b && is_some (answer_at now p)) ≡ (b && is_some (answer_at now q))
same_given now q p true e = ap (λ (k : ℕ). is_some (answer_at now k)) (sym (eq_nat q p e))
same_given now q p false e = refl

regroup : (a e i g : Bool) → ((a || (e && g)) || (i && g)) ≡ (a || ((e || i) && g))
regroup true e i g = refl
regroup false false i g = refl
regroup false true i true = refl
regroup false true true false = refl
regroup false true false false = refl

-- who has an answer after a history
answered_after : (now : List (Option Answer)) (h : List Event) (s : State) (q : ℕ) → is_some (answer_to (state_after s (steps_of now h)).answers q) ≡ (is_some (answer_to s.answers q) || (list_any (nat_eq q) (posts h) && is_some (answer_at now q)))
answered_after now [] s q = sym (or_right (is_some (answer_to s.answers q)))
answered_after now (events.Define c ∷ h) s q = answered_after now h (after s (step_of now (events.Define c))) q
answered_after now (events.Initiate c l ∷ h) s q = answered_after now h (after s (step_of now (events.Initiate c l))) q
answered_after now (events.Constrain e ∷ h) s q = answered_after now h (after s (step_of now (events.Constrain e))) q
answered_after now (events.Settle r ∷ h) s q = answered_after now h (after s (step_of now (events.Settle r))) q
answered_after now (events.Prepare c ∷ h) s q = answered_after now h (after s (step_of now (events.Prepare c))) q
answered_after now (events.NextRound ∷ h) s q = answered_after now h (after s NextRound) q
answered_after now (events.Post p ∷ h) s q =
    let had = is_some (answer_to s.answers q) in
    let given = is_some (answer_at now q) in
    let one : is_some (answer_to (after s (post_of p (answer_at now p))).answers q) ≡ (had || (nat_eq q p && given)) =
    post_adds s q p (answer_at now p) ∙ ap (λ (b : Bool). had || b) (same_given now q p (nat_eq q p) refl) in
    answered_after now h (after s (post_of p (answer_at now p))) q
    ∙ ap (λ (b : Bool). b || (list_any (nat_eq q) (posts h) && given)) one
    ∙ regroup had (nat_eq q p) (list_any (nat_eq q) (posts h)) given

both : (b c : Bool) → b ≡ c → (b && c) ≡ c
both true true e = refl
both false false e = refl
both true false e = absurd cc
both false true e = absurd cc

-- a request has an answer in the state just where it has one
pub answered : (x : Shown) (q : ℕ) → IsTrusted x → is_some (answer_to (state_of x).answers q) ≡ is_some (answer_at (answers_of x.answers) q)
answered x q t = answered_after (answers_of x.answers) x.history start q ∙ both (list_any (nat_eq q) (posts x.history)) (is_some (answer_at (answers_of x.answers) q)) (t.posted q)

-- ---- the records of the state are of classes that are defined

-- what holds of each class that is recorded or defined holds of each that is recorded after it
records_hold : (P : Class → Type 0) (script : List Scheduled) (rounds : ℕ) (now : List (Option Answer)) (h : List Event) (s : State) → Orderly script rounds s (steps_of now h) → ((l p : ℕ) (n : Name) → recorded_definer s.records l n ≡ Some p → P (class n p))
    → AllByRecursion P (defined_classes h) → (l p : ℕ) (n : Name) → recorded_definer (state_after s (steps_of now h)).records l n ≡ Some p → P (class n p)
records_hold P script rounds now [] s run here all l p n e = here l p n e
records_hold P script rounds now (events.Define c ∷ h) s run here all l p n e =
    records_hold P script rounds now h (after s (Define c)) run.1
    (λ k m o f. elim (recorded_added s.records (record { loader = c.loader; name = c.name; place = c.loader }) k m o f) [
      | inl old ↦ here k m o old
      | inr new ↦ subst (λ (i : ℕ). P (class o i)) new.2 (subst (λ (i : Name). P (class i c.loader)) new.1 all.0)
    ])
    all.1 l p n e
records_hold P script rounds now (events.Initiate c j ∷ h) s run here all l p n e =
    records_hold P script rounds now h (after s (Initiate c.name c.loader j)) run.1
    (λ k m o f. elim (recorded_added s.records (record { loader = j; name = c.name; place = c.loader }) k m o f) [
      | inl old ↦ here k m o old
      | inr new ↦ subst (λ (i : ℕ). P (class o i)) new.2 (subst (λ (i : Name). P (class i c.loader)) new.1 (here c.loader c.loader c.name run.0.0))
    ])
    all l p n e
records_hold P script rounds now (events.Constrain k ∷ h) s run here all l p n e = records_hold P script rounds now h (after s (step_of now (events.Constrain k))) run.1 here all l p n e
records_hold P script rounds now (events.Settle r ∷ h) s run here all l p n e = records_hold P script rounds now h (after s (step_of now (events.Settle r))) run.1 here all l p n e
records_hold P script rounds now (events.Prepare c ∷ h) s run here all l p n e = records_hold P script rounds now h (after s (step_of now (events.Prepare c))) run.1 here all l p n e
records_hold P script rounds now (events.NextRound ∷ h) s run here all l p n e = records_hold P script rounds now h (after s NextRound) run.1 here all l p n e
records_hold P script rounds now (events.Post q ∷ h) s run here all l p n e =
    records_hold P script rounds now h (after s (post_of q (answer_at now q))) run.1
    (λ k m o f. here k m o (subst (λ (rs : List Record). recorded_definer rs k o ≡ Some m) (post_same s q (answer_at now q)) f))
    all l p n e

none_before : (P : Class → Type 0) (l p : ℕ) (n : Name) → recorded_definer start.records l n ≡ Some p → P (class n p)
none_before P l p n e = absurd cc

-- what holds of each class that is defined holds of each that is recorded
pub recorded_hold : (P : Class → Type 0) (x : Shown) → IsTrusted x → AllByRecursion P (defined_classes x.history) → (l p : ℕ) (n : Name) → recorded_definer (state_of x).records l n ≡ Some p → P (class n p)
recorded_hold P x t all l p n e = records_hold P _ _ (answers_of x.answers) x.history start t.tables (none_before P) all l p n e

-- each class that is defined is recorded by its loader
defined_known : (script : List Scheduled) (rounds : ℕ) (now : List (Option Answer)) (h : List Event) (s : State) → Orderly script rounds s (steps_of now h) → AllByRecursion (IsRecorded (state_after s (steps_of now h))) (defined_classes h)
defined_known script rounds now [] s run = tt
defined_known script rounds now (events.Define c ∷ h) s run = (
  (run_later (after s (Define c)) (steps_of now h)).records c.loader c.loader c.name (record_found s.records (record { loader = c.loader; name = c.name; place = c.loader }) run.0.fresh),
  defined_known script rounds now h (after s (Define c)) run.1,
)
defined_known script rounds now (events.Initiate c j ∷ h) s run = defined_known script rounds now h (after s (Initiate c.name c.loader j)) run.1
defined_known script rounds now (events.Constrain e ∷ h) s run = defined_known script rounds now h (after s (step_of now (events.Constrain e))) run.1
defined_known script rounds now (events.Settle r ∷ h) s run = defined_known script rounds now h (after s (step_of now (events.Settle r))) run.1
defined_known script rounds now (events.Prepare c ∷ h) s run = defined_known script rounds now h (after s (step_of now (events.Prepare c))) run.1
defined_known script rounds now (events.NextRound ∷ h) s run = defined_known script rounds now h (after s NextRound) run.1
defined_known script rounds now (events.Post q ∷ h) s run = defined_known script rounds now h (after s (post_of q (answer_at now q))) run.1

pub all_known : (x : Shown) → IsTrusted x → AllByRecursion (IsRecorded (state_of x)) (defined_classes x.history)
all_known x t = defined_known _ _ (answers_of x.answers) x.history start t.tables

-- ---- loaders

abbrev Names : ℕ → Option rust.Answer → Type 0
Names count o = IfSome o (AnswerNames count)

pub names_event : (count : ℕ) (h : List Event) (e : Event) → All (EventNames count) h → EventNames count e → All (EventNames count) (h ++ e ∷ [])
names_event count h e all one = All-push (EventNames count) h e all one

pub named_new : (x : Shown) (left : ℕ) → x.history ≡ [] → x.answers ≡ replicate left None → NamesLoaders x
named_new x left h a = record {
  history = All-same (EventNames (length x.config.loaders)) x.history [] h (All-nil (EventNames (length x.config.loaders)));
  settled = All-same (λ s. VerdictNames (length x.config.loaders) s.verdict) (settlements x.history) [] (ap settlements h) (All-nil (λ s. VerdictNames (length x.config.loaders) s.verdict));
  answers = All-same (Names (length x.config.loaders)) x.answers (replicate left None) a (All-replicate (Names (length x.config.loaders)) left None tt);
}

-- the answers that were given, taken out
given_names : (count : ℕ) (given : List rust.Answer) (xs : List (Option rust.Answer)) → map (λ a. Some a) given ≡ xs → All (Names count) xs → All (AnswerNames count) given
given_names count given xs e n = All-from_recursion (AnswerNames count) given (out given (recursion_from_All (Names count) (map (λ a. Some a) given) (All-same (Names count) (map (λ a. Some a) given) xs e n)))
  where
    out : (ys : List rust.Answer) → AllByRecursion (Names count) (map (λ a. Some a) ys) → AllByRecursion (AnswerNames count) ys
    out [] h = tt
    out (y ∷ ys) h = (h.0, out ys h.1)

pub report_names : (x : Shown) (r : Report) → NamesLoaders x → IsReport x r → IsNamed (length x.config.loaders) r
report_names x r n is = record {
  history = All-same (EventNames (length x.config.loaders)) r.history x.history is.history n.history;
  answers = given_names (length x.config.loaders) r.answers x.answers is.answers n.answers;
}
