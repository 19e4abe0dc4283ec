-- What a link was told of the tables, and what follows of them.
use Rattle.std.proofs.Common.{◌≡◌, ◌∙◌, ◌<◌, ◌≤◌, ◌+◌, ℕ, zero, suc, Bool, true, false, not, eqb, List, [], ◌∷◌, ◌++◌, length, map, Option, Some, refl, sym, ap, subst, arith, get_or}
use Rattle.std.proofs.lemmas.Bool.{eqb-true}
use Rattle.std.specs.Prelude.{slice_get, take, unwrap_or, Contains, option_map}
use Rattle.std.specs.List.{AllByRecursion}
use Rattle.std.proofs.lemmas.Option.{slice_get-map}
use Rattle.std.proofs.lemmas.List.{length_push}
use Rattle.cl_model.specs.declared.class.Class.{Class}
use Rattle.cl_model.specs.declared.need.Equality.{Equality}
use Rattle.cl_model.specs.States.{State, AllMet, recorded_definer, IsRecorded, Met}
use Rattle.cl_model.specs.Tables.{IsConsistent}
use Rattle.cl_model.proofs.Bind.{some_same}
use Rattle.cl_hierarchy.specs.Imposed.{Listed, OfPreparation, Sprung, needs_of, equal_need}
use Rattle.cl_hierarchy.specs.Lineages.{Lined, rows_in}
use Rattle.cl_hierarchy.specs.Rows.{Rowed}
use Rattle.cl_hierarchy.proofs.Ends.{at_length}
use Rattle.cl_registry.specs.Tables.{Shown, records_of, state_of}
use Rattle.cl_registry.specs.Traced.{IsRowOf, IsTraced}
use Rattle.cl_registry.proofs.Schedules.{some_at}
use Rattle.cl_tasks.specs.Facts.{AreSo}
use Rattle.cl_tasks.specs.Stages.{chain_facts, class_in, classes_in, goal_facts, imposed_facts, sprung_facts, traced_facts}
use Rattle.cl_tasks.specs.Tasks.{Fact, HasLineage, IsPrepared}
use Rattle.cl_tasks.specs.declared.stage.Chain.{Chain}
use Rattle.cl_tasks.proofs.Facts.{stand_met, met_stand, prepared_all}

-- ---- lists of facts

pub so_both : (x : Shown) (fs gs : List Fact) → AreSo x fs → AreSo x gs → AreSo x (fs ++ gs)
so_both x [] gs h k = k
so_both x (f ∷ fs) gs h k = (h.0, so_both x fs gs h.1 k)

pub so_first : (x : Shown) (fs gs : List Fact) → AreSo x (fs ++ gs) → AreSo x fs
so_first x [] gs h = tt
so_first x (f ∷ fs) gs h = (h.0, so_first x fs gs h.1)

pub so_second : (x : Shown) (fs gs : List Fact) → AreSo x (fs ++ gs) → AreSo x gs
so_second x [] gs h = h
so_second x (f ∷ fs) gs h = so_second x fs gs h.1

pub prepared_to_so : (x : Shown) (cs : List Class) → AllByRecursion (Contains (state_of x).prepared) cs → AreSo x (map (λ c. IsPrepared c) cs)
prepared_to_so x [] h = tt
prepared_to_so x (c ∷ cs) h = (h.0, prepared_to_so x cs h.1)

-- ---- places of lists

pub all_at : {A : Type 0} (P : A → Type 0) (xs : List A) (k : ℕ) (a : A) → AllByRecursion P xs → slice_get xs k ≡ Some a → P a
all_at P [] k a h e = absurd cc
all_at P (x ∷ xs) zero a h e = subst P (some_same x a e) h.0
all_at P (x ∷ xs) (suc k) a h e = all_at P xs k a h.1 e

pub none : {A : Type 0} (P : A → Type 0) (xs : List A) → AllByRecursion P (take 0 xs)
none P [] = tt
none P (x ∷ xs) = tt

-- of the classes of a lineage, where these are first
pub taken_above : (P : Class → Type 0) (rows : List Rowed) (own : Rowed) (n : ℕ) → n ≤ length rows → AllByRecursion (λ (r : Rowed). P r.class) (take n rows) → AllByRecursion P (take n (map (λ (r : Rowed). r.class) (rows ++ own ∷ [])))
taken_above P rows own zero le h = none P (map (λ (r : Rowed). r.class) (rows ++ own ∷ []))
taken_above P [] own (suc n) le h = absurd (omega (arith, le))
taken_above P (r ∷ rows) own (suc n) le h = (h.0, taken_above P rows own n (omega (arith, le)) h.1)

taken_next : {A : Type 0} (P : A → Type 0) (xs : List A) (k : ℕ) (a : A) → AllByRecursion P (take k xs) → slice_get xs k ≡ Some a → P a → AllByRecursion P (take (suc k) xs)
taken_next P [] k a h e p = absurd cc
taken_next P (x ∷ xs) zero a h e p = (subst P (sym (some_same x a e)) p, none P xs)
taken_next P (x ∷ xs) (suc k) a h e p = (h.0, taken_next P xs k a h.1 e p)

pub taken_more : {A : Type 0} (P : A → Type 0) (xs : List A) (k : ℕ) (a : A) → AllByRecursion P (take k xs) → slice_get xs k ≡ Some a → P a → AllByRecursion P (take (k + 1) xs)
taken_more P xs k a h e p =
    let one : suc k ≡ k + 1 = omega arith in
    subst (λ (n : ℕ). AllByRecursion P (take n xs)) one (taken_next P xs k a h e p)

pub mapped_at : {A B : Type 0} (f : A → B) (xs : List A) (k : ℕ) (a : A) → slice_get xs k ≡ Some a → slice_get (map f xs) k ≡ Some (f a)
mapped_at f xs k a e = slice_get-map f xs k ∙ ap (λ (o : Option _). option_map f o) e

pub met_more : (x : Shown) (e : Listed) (i : ℕ) (y : Equality) → slice_get e.needs i ≡ Some y → AllMet (state_of x) (take i (needs_of e.needs)) → Met (state_of x) (equal_need y) → AllMet (state_of x) (take (i + 1) (needs_of e.needs))
met_more x e i y at met one = taken_more (Met (state_of x)) (needs_of e.needs) i (equal_need y) met (mapped_at equal_need e.needs i y at) one

pub whole_length : (l : Lined) → length (rows_in l) ≡ length l.above + 1
whole_length l = length_push l.above l.own

-- ---- equalities of a loader with itself

met_own : (s : State) (es : List Equality) (i : ℕ) (a b : Equality) (apart : Bool) → i < length es → apart ≡ not (eqb (get_or es i a).one (get_or es i b).other) → apart ≡ false → AllMet s (take i (needs_of es)) → AllMet s (take (suc i) (needs_of es))
met_own s [] i a b apart lt told off met = absurd (omega (arith, lt))
met_own s (y ∷ es) zero a b apart lt told off met = (record { path = []; along = eqb-true y.one y.other (not_apart (eqb y.one y.other) (sym told ∙ off)) }, tt)
  where
    not_apart : (t : Bool) → not t ≡ false → t ≡ true
    not_apart true e = refl
    not_apart false e = absurd cc
met_own s (y ∷ es) (suc i) a b apart lt told off met = (met.0, met_own s es i a b apart (omega (arith, lt)) told off met.1)

-- one of them more is met
pub own_met : (s : State) (es : List Equality) (i : ℕ) (a b : Equality) (apart : Bool) → i < length es → apart ≡ not (eqb (get_or es i a).one (get_or es i b).other) → apart ≡ false → AllMet s (take i (needs_of es)) → AllMet s (take (i + 1) (needs_of es))
own_met s es i a b apart lt told off met =
    let one : suc i ≡ i + 1 = omega arith in
    subst (λ (n : ℕ). AllMet s (take n (needs_of es))) one (met_own s es i a b apart lt told off met)

-- where so many of a list are met that it has no more
pub until_end : (s : State) (es : List Equality) (at : ℕ) → length es ≤ at → AllMet s (take at (needs_of es)) → AllMet s (take (length es) (needs_of es))
until_end s [] at le met = tt
until_end s (y ∷ es) zero le met = absurd (omega (arith, le))
until_end s (y ∷ es) (suc at) le met = (met.0, until_end s es at (omega (arith, le)) met.1)

-- the same of another name of the list
pub met_of_same : (s : State) (place at : ℕ) (xs ys : List Equality) → xs ≡ ys → (AllMet s (take place (needs_of xs)) → AllMet s (take at (needs_of xs))) → AllMet s (take place (needs_of ys)) → AllMet s (take at (needs_of ys))
met_of_same s place at xs ys same more met =
    subst (λ (es : List Equality). AllMet s (take at (needs_of es))) same (more (subst (λ (es : List Equality). AllMet s (take place (needs_of es))) (sym same) met))

-- ---- classes of a lineage

-- the row at a place
pub row_there : (l : Lined) (place : ℕ) → place < length (rows_in l) → (r : Rowed) × (slice_get (rows_in l) place ≡ Some r) × (class_in l place ≡ r.class)
row_there l place lt =
    let r = some_at (rows_in l) place lt in
    (r.0, r.1, ap (λ (o : Option Class). unwrap_or o l.own.class) (mapped_at (λ (y : Rowed). y.class) (rows_in l) place r.0 r.1))

pub class_there : (l : Lined) (place : ℕ) → place < length (rows_in l) → slice_get (classes_in l) place ≡ Some (class_in l place)
class_there l place lt =
    let r = row_there l place lt in
    mapped_at (λ (y : Rowed). y.class) (rows_in l) place r.0 r.1 ∙ ap (λ (c : Class). Some c) (sym r.2)

pub class_last : (l : Lined) → class_in l (length l.above) ≡ l.own.class
class_last l = ap (λ (o : Option Class). unwrap_or o l.own.class) (mapped_at (λ (y : Rowed). y.class) (rows_in l) (length l.above) l.own (at_length l.above l.own))

-- ---- what is traced

pub traced_recorded : (x : Shown) (c : Class) (l : Lined) (place : ℕ) → IsTraced x c l → place < length (rows_in l) → IsRecorded (state_of x) (class_in l place)
traced_recorded x c l place h lt =
    let r = row_there l place lt in
    subst (λ (k : Class). IsRecorded (state_of x) k) (sym r.2) (all_at (IsRowOf x) (rows_in l) place r.0 h.rows r.1).recorded

pub traced_own : (x : Shown) (c : Class) (l : Lined) → IsTraced x c l → IsRowOf x l.own
traced_own x c l h = all_at (IsRowOf x) (rows_in l) (length l.above) l.own h.rows (at_length l.above l.own)

-- a class that a loader records is recorded by its own
pub own_recorded : (x : Shown) (loader : ℕ) (c : Class) → IsConsistent (state_of x) → recorded_definer (records_of x) loader c.name ≡ Some c.loader → IsRecorded (state_of x) c
own_recorded x loader c fine at = fine.own loader c.loader c.name at

-- ---- the facts of a chain

pub chain_goal : {A : Type 0} (x : Shown) (k : Chain A) → AreSo x (chain_facts k) → AreSo x (goal_facts k.goal)
chain_goal x k h = so_first x (goal_facts k.goal) (HasLineage k.whole ∷ map (λ c. IsPrepared c) (take k.place (classes_in k.whole))) h

pub chain_whole : {A : Type 0} (x : Shown) (k : Chain A) → AreSo x (chain_facts k) → IsTraced x k.whole.own.class k.whole
chain_whole x k h = (so_second x (goal_facts k.goal) (HasLineage k.whole ∷ map (λ c. IsPrepared c) (take k.place (classes_in k.whole))) h).0

pub chain_prepared : {A : Type 0} (x : Shown) (k : Chain A) → AreSo x (chain_facts k) → AllByRecursion (Contains (state_of x).prepared) (take k.place (classes_in k.whole))
chain_prepared x k h =
    prepared_all x (take k.place (classes_in k.whole))
    (so_second x (goal_facts k.goal) (HasLineage k.whole ∷ map (λ c. IsPrepared c) (take k.place (classes_in k.whole))) h).1

pub chain_of : {A : Type 0} (x : Shown) (k : Chain A) → AreSo x (goal_facts k.goal) → IsTraced x k.whole.own.class k.whole → AllByRecursion (Contains (state_of x).prepared) (take k.place (classes_in k.whole))
    → AreSo x (chain_facts k)
chain_of x k goal whole prepared =
    so_both x (goal_facts k.goal) (HasLineage k.whole ∷ map (λ c. IsPrepared c) (take k.place (classes_in k.whole))) goal
    (whole, prepared_to_so x (take k.place (classes_in k.whole)) prepared)

-- ---- the facts of a list

abbrev pub list_facts : {A : Type 0} → Chain A → Listed → ℕ → List Fact
list_facts k e place = chain_facts k ++ (traced_facts e ++ imposed_facts e place)

pub list_chain : {A : Type 0} (x : Shown) (k : Chain A) (e : Listed) (place : ℕ) → AreSo x (list_facts k e place) → AreSo x (chain_facts k)
list_chain x k e place h = so_first x (chain_facts k) (traced_facts e ++ imposed_facts e place) h

pub list_imposed : {A : Type 0} (x : Shown) (k : Chain A) (e : Listed) (place : ℕ) → AreSo x (list_facts k e place) → AllMet (state_of x) (take place (needs_of e.needs))
list_imposed x k e place h =
    stand_met x (take place (needs_of e.needs)) (so_second x (traced_facts e) (imposed_facts e place) (so_second x (chain_facts k) (traced_facts e ++ imposed_facts e place) h))

pub list_traced : {A : Type 0} (x : Shown) (k : Chain A) (e : Listed) (place : ℕ) (at : Lined) → e.origin ≡ OfPreparation at → AreSo x (list_facts k e place) → IsTraced x at.own.class at
list_traced x k e place at is h =
    let here : AreSo x (sprung_facts (OfPreparation at)) = subst (λ (from : Sprung). AreSo x (sprung_facts from)) is (so_first x (traced_facts e) (imposed_facts e place) (so_second x (chain_facts k) (traced_facts e ++ imposed_facts e place) h)) in
    here.0

pub list_of : {A : Type 0} (x : Shown) (k : Chain A) (e : Listed) (place : ℕ) (at : Lined) → e.origin ≡ OfPreparation at → AreSo x (chain_facts k) → IsTraced x at.own.class at → AllMet (state_of x) (take place (needs_of e.needs))
    → AreSo x (list_facts k e place)
list_of x k e place at is chain traced met =
    so_both x (chain_facts k) (traced_facts e ++ imposed_facts e place) chain
    (so_both x (traced_facts e) (imposed_facts e place) (subst (λ (from : Sprung). AreSo x (sprung_facts from)) (sym is) (traced, tt)) (met_stand x (take place (needs_of e.needs)) met))
