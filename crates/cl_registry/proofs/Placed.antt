-- What is recorded has its row; and in a told content its class has the file of that row.
use Rattle.std.proofs.Common.{◌≡◌, ◌∙◌, ℕ, Bool, true, false, List, [], ◌∷◌, map, Option, Some, None, inl, inr, refl, sym, ap, subst}
use Rattle.std.proofs.lemmas.Bool.{or_left, or_right}
use Rattle.std.specs.Prelude.{if◌then◌else◌, ◌⊎◌, ◌||◌, option_and_then}
use Rattle.std.specs.List.{AllByRecursion, list_any}
use Rattle.std.proofs.lemmas.List.Elements.{recursion_from_All}
use Rattle.cl_classfile.specs.Files.{Name}
use Rattle.cl_model.specs.declared.class.Class.{Class}
use Rattle.cl_model.specs.declared.event.Event.{Event}
use Rattle.cl_model.specs.declared.event.Event.TheVariants as events
use Rattle.cl_model.specs.Content.{Content}
use Rattle.cl_model.specs.Classes.{class, same_class}
use Rattle.cl_model.specs.States.{State, Record, start, Answer, recorded_definer}
use Rattle.cl_model.specs.Machine.{Scheduled, Define, after, state_after}
use Rattle.cl_model.specs.Tables.{Orderly}
use Rattle.cl_model.specs.Views.{answers_of, answer_at, post_of, step_of, steps_of}
use Rattle.cl_model.proofs.Ancestors.{same_self}
use Rattle.cl_model.proofs.Complete.{is_class}
use Rattle.cl_model.proofs.Runs.{recorded_added}
use Rattle.cl_model.proofs.Tables.{trusted_is_consistent}
use Rattle.cl_config.specs.Loaders.{schedule_of}
use Rattle.cl_hierarchy.specs.Drafts.{IsSpelt}
use Rattle.cl_hierarchy.specs.Rows.{Rowed}
use Rattle.cl_hierarchy.specs.Lineages.{row_of}
use Rattle.cl_registry.specs.Tables.{Shown, steps, records_of, defined_classes, looked_row, IsTrusted, IsKept}
use Rattle.cl_model.proofs.Bind.{none_not_some}

-- ---- what is recorded by the loader that defined it has its event

-- this class is one of those
abbrev is_one : Class → List Class → Bool
is_one c cs = list_any (λ d. same_class d c) cs

-- it is recorded, or its definition comes
abbrev Comes : State → Class → List Event → Type 0
Comes s c h = (recorded_definer s.records c.loader c.name ≡ Some c.loader) ⊎ (is_one c (defined_classes h) ≡ true)

pub post_same : (s : State) (q : ℕ) (o : Option Answer) → (after s (post_of q o)).records ≡ s.records
post_same s q None = refl
post_same s q (Some a) = refl

class_of : (c d : Class) → c.name ≡ d.name → c.loader ≡ d.loader → c ≡ d
class_of c d n l = ap (λ (m : Name). class m c.loader) n ∙ ap (λ (k : ℕ). class d.name k) l

comes : (script : List Scheduled) (rounds : ℕ) (now : List (Option Answer)) (c : Class) (h : List Event) (s : State) → Orderly script rounds s (steps_of now h)
    → recorded_definer (state_after s (steps_of now h)).records c.loader c.name ≡ Some c.loader → Comes s c h
comes script rounds now c [] s fine at = inl at
comes script rounds now c (events.Define d ∷ h) s fine at = elim (comes script rounds now c h (after s (Define d)) fine.1 at) [
  | inl k ↦ elim (recorded_added s.records (record { loader = d.loader; name = d.name; place = d.loader }) c.loader c.loader c.name k) [
    | inl old ↦ inl old
    | inr new ↦ inr (or_left (same_class d c) (is_one c (defined_classes h)) (ap (λ (e : Class). same_class e c) (class_of d c new.1 new.0) ∙ same_self c))
  ]
  | inr k ↦ inr (or_right (same_class d c) (is_one c (defined_classes h)) k)
]
comes script rounds now c (events.Initiate d loader ∷ h) s fine at = elim (comes script rounds now c h (after s (step_of now (events.Initiate d loader))) fine.1 at) [
  | inl k ↦ elim (recorded_added s.records (record { loader = loader; name = d.name; place = d.loader }) c.loader c.loader c.name k) [
    | inl old ↦ inl old
    | inr new ↦ absurd (none_not_some (recorded_definer s.records loader d.name) fine.0.1.fresh
        (subst (λ (l : ℕ). recorded_definer s.records l d.name ≡ Some d.loader) (new.2 ∙ sym new.0) fine.0.0))
  ]
  | inr k ↦ inr k
]
comes script rounds now c (events.Constrain e ∷ h) s fine at = comes script rounds now c h (after s (step_of now (events.Constrain e))) fine.1 at
comes script rounds now c (events.Settle r ∷ h) s fine at = comes script rounds now c h (after s (step_of now (events.Settle r))) fine.1 at
comes script rounds now c (events.Prepare d ∷ h) s fine at = comes script rounds now c h (after s (step_of now (events.Prepare d))) fine.1 at
comes script rounds now c (events.NextRound ∷ h) s fine at = comes script rounds now c h (after s (step_of now events.NextRound)) fine.1 at
comes script rounds now c (events.Post q ∷ h) s fine at = elim (comes script rounds now c h (after s (post_of q (answer_at now q))) fine.1 at) [
  | inl k ↦ inl (subst (λ (rs : List Record). recorded_definer rs c.loader c.name ≡ Some c.loader) (post_same s q (answer_at now q)) k)
  | inr k ↦ inr k
]

pub no_record : {x : ℕ} → None ≡ Some x → ⊥
no_record h = cc

is_defined : (x : Shown) (c : Class) → IsTrusted x → recorded_definer (records_of x) c.loader c.name ≡ Some c.loader → is_one c (defined_classes x.history) ≡ true
is_defined x c trusted at = elim (comes (schedule_of x.script) x.script.rounds (answers_of x.answers) c x.history start trusted.tables at) [ inl k ↦ absurd (no_record k) | inr k ↦ k ]

-- ---- and its row

-- the row of a class, whose bytes spell its file
pub record HasRow (told : Option Content) (o : Option Rowed) (c : Class) : Type 0 where
  pub row : Rowed
  pub found : o ≡ Some row
  pub is : row.class ≡ c
  pub spelt : IsSpelt told c row.file

abbrev Spelt : Option Content → Rowed → Type 0
Spelt told r = IsSpelt told r.class r.file

found_row : (told : Option Content) (c : Class) (rows : List Rowed) → AllByRecursion (Spelt told) rows → is_one c (map (λ r. r.class) rows) ≡ true → HasRow told (row_of rows c) c
found_row told c [] spelt h = absurd cc
found_row told c (r ∷ rows) spelt h = by_test (same_class r.class c) refl (found_row told c rows spelt.1) h
  where
    by_test : (b : Bool) → same_class r.class c ≡ b → (is_one c (map (λ r. r.class) rows) ≡ true → HasRow told (row_of rows c) c) → (b || is_one c (map (λ r. r.class) rows)) ≡ true → HasRow told (if b then Some r else row_of rows c) c
    by_test true t more h = let is = is_class r.class c t in record { row = r; found = refl; is = is; spelt = subst (λ (k : Class). IsSpelt told k r.file) is spelt.0 }
    by_test false t more h = more h

-- what a loader has recorded has the row that is found there
pub recorded_row : (told : Option Content) (x : Shown) (loader place : ℕ) (name : Name) → IsKept told x → recorded_definer (records_of x) loader name ≡ Some place → HasRow told (looked_row x loader name) (class name place)
recorded_row told x loader place name kept at =
    let own = (trusted_is_consistent (schedule_of x.script) x.script.rounds (steps x) kept.trusted.tables).own loader place name at in
    let r = found_row told (class name place) x.rows (recursion_from_All (Spelt told) x.rows kept.spelt) (subst (λ (cs : List Class). is_one (class name place) cs ≡ true) (sym kept.rows) (is_defined x (class name place) kept.trusted own)) in
    record { row = r.row; found = ap (option_and_then (λ place. row_of x.rows (class name place))) at ∙ r.found; is = r.is; spelt = r.spelt }
