-- What tests of lists and of tables tell.
use Rattle.std.proofs.Common.{◌≡◌, ◌∙◌, ◌<◌, ◌≤◌, ◌+◌, ℕ, zero, suc, Bool, true, false, List, [], ◌∷◌, ◌++◌, if◌then◌else◌, length, take, Option, Some, None, inl, inr, refl, sym, ap, subst, arith, add-one, get_or}
use Rattle.std.specs.Prelude.{slice_get, IfSome, Contains}
use Rattle.std.specs.List.{list_any}
use Rattle.cl_model.specs.declared.class.Class.{Class}
use Rattle.cl_model.specs.declared.need.Equality.{Equality}
use Rattle.cl_classfile.specs.Files.{file_of}
use Rattle.cl_findings.specs.Findings.{Decides}
use Rattle.cl_model.specs.Classes.{class, Above, class_accessible, same_class, supers}
use Rattle.cl_model.proofs.Complete.{is_class}
use Rattle.std.proofs.lemmas.Map.Views.{Contains-from_any}
use Rattle.indexmap.specs.IndexSet.{insert_key}
use Rattle.cl_model.specs.States.{State, Need, Met, AllMet, Refused, recorded_definer}
use Rattle.cl_model.specs.Tables.{Records}
use Rattle.cl_hierarchy.specs.Imposed.{AreOf, Listed, Sprung, OfPreparation, equal_need, needs_of}
use Rattle.cl_hierarchy.specs.Lineages.{IsLined, Lined}
use Rattle.cl_hierarchy.specs.Rows.{Rowed}
use Rattle.cl_model.specs.Content.{Content}
use Rattle.std.proofs.lemmas.Option.{slice_get_read}
use Rattle.cl_registry.proofs.Constrained.{marked_is_allowed}
use Rattle.cl_registry.specs.Imposing.{ArePreparedAbove, Constrains, Imposes, IsNextOf, IsPreparedAbove, IsPreparedBy, IsReached, IsReady, IsReadyBy, IsStanding, MarksBy, MayImpose, MayPrepareAs, OriginStands, with_constrain}
use Rattle.cl_registry.specs.declared.registry.RegistryFault.TheVariants.{Memory}
use Rattle.cl_registry.specs.Refusals.{MarkRefusedFor}
use Rattle.cl_registry.specs.Tables.{Shown, IsKept, LacksRecord, records_of, state_of}
use Rattle.cl_model.proofs.Bind.{some_same, none_not_some}

-- ---- equalities that are met

more : (s : State) (es : List Equality) (i : ℕ) (e : Equality) → i < length es → e ≡ get_or es i e → AllMet s (needs_of (take i es)) → Met s (equal_need e) → AllMet s (needs_of (take (suc i) es))
more s [] i e h at met one = absurd (omega arith)
more s (x ∷ es) zero e h at met one = (subst (λ (y : Equality). Met s (equal_need y)) at one, tt)
more s (x ∷ es) (suc i) e h at met one = (met.0, more s es i e (omega arith) at met.1 one)

pub met_more : (s : State) (es : List Equality) (i : ℕ) (e : Equality) → i < length es → e ≡ get_or es i e → AllMet s (needs_of (take i es)) → Met s (equal_need e) → AllMet s (needs_of (take (i + 1) es))
met_more s es i e h at met one = rw add-one (more s es i e h at met one)

pub met_at : (s : State) (es : List Equality) (i : ℕ) (e : Equality) → i < length es → e ≡ get_or es i e → AllMet s (needs_of es) → Met s (equal_need e)
met_at s [] i e h at met = absurd (omega arith)
met_at s (x ∷ es) zero e h at met = subst (λ (y : Equality). Met s (equal_need y)) (sym at) met.0
met_at s (x ∷ es) (suc i) e h at met = met_at s es i e (omega arith) at met.1

pub met_all : (s : State) (es : List Equality) (i : ℕ) → length es ≤ i → AllMet s (needs_of (take i es)) → AllMet s (needs_of es)
met_all s [] i h met = tt
met_all s (x ∷ es) zero h met = absurd (omega arith)
met_all s (x ∷ es) (suc i) h met = (met.0, met_all s es i (omega arith) met.1)

-- the first so many, as needs
pub needs_taken : (es : List Equality) (i : ℕ) → take i (needs_of es) ≡ needs_of (take i es)
needs_taken es zero = refl
needs_taken [] (suc i) = refl
needs_taken (x ∷ es) (suc i) = ap (λ ns. equal_need x ∷ ns) (needs_taken es i)

-- ---- prepared classes

-- a class that is not there goes last
pub insert_new : (keys : List Class) (c : Class) → (Contains keys c → ⊥) → insert_key same_class keys c ≡ keys ++ c ∷ []
insert_new keys c absent = by_test (list_any (same_class c) keys) refl
  where
    by_test : (b : Bool) → list_any (same_class c) keys ≡ b → (if b then keys else keys ++ c ∷ []) ≡ keys ++ c ∷ []
    by_test true e = absurd (absent (Contains-from_any (λ x y h. is_class x y h) c keys e))
    by_test false e = refl

-- ---- what a list was made from

-- the class of a lineage of this configuration is recorded
pub standing_at : (x : Shown) (l : Lined) (k : Class) (b : Bool) (at : ℕ → List ℕ → Option ℕ) → k ≡ l.own.class → l.config ≡ x.config → ((i : ℕ) (n : List ℕ) → at i n ≡ recorded_definer (records_of x) i n)
    → Decides b (at k.loader k.name ≡ Some k.loader) → Decides b (IsStanding x l)
standing_at x l k true at is config same h = record { config = config; recorded = subst (λ (c : Class). recorded_definer (records_of x) c.loader c.name ≡ Some c.loader) is (sym (same k.loader k.name) ∙ h) }
standing_at x l k false at is config same h = λ stands. h (same k.loader k.name ∙ subst (λ (c : Class). recorded_definer (records_of x) c.loader c.name ≡ Some c.loader) (sym is) stands.recorded)

-- the class of another is another than the one that is recorded
pub not_reached : (x : Shown) (d c : Lined) (m k : Class) (at : ℕ → List ℕ → Option ℕ) → m ≡ d.own.class → k ≡ c.own.class → ((i : ℕ) (n : List ℕ) → at i n ≡ recorded_definer (records_of x) i n) → (at m.loader k.name ≡ Some k.loader → ⊥) → IsReached x d c → ⊥
not_reached x d c m k at e f same none r =
    none (same m.loader k.name ∙ subst (λ (i : ℕ). recorded_definer (records_of x) i k.name ≡ Some k.loader) (sym (ap (λ (z : Class). z.loader) e)) (subst (λ (z : Class). recorded_definer (records_of x) d.own.class.loader z.name ≡ Some z.loader) (sym f) r.recorded))

-- or it is that one, and accessible or not
pub reached_at : (x : Shown) (d c : Lined) (m k from : Class) (row : Rowed) (b : Bool) (at : ℕ → List ℕ → Option ℕ) → m ≡ d.own.class → k ≡ c.own.class → c.config ≡ x.config → ((i : ℕ) (n : List ℕ) → at i n ≡ recorded_definer (records_of x) i n)
    → at m.loader k.name ≡ Some k.loader → row ≡ c.own → from ≡ d.own.class → b ≡ class_accessible (file_of row.file).flags row.class from → Decides b (IsReached x d c)
reached_at x d c m k from row b at e f config same found is to told = by_test b (told ∙ ap (λ (r : Rowed). class_accessible (file_of r.file).flags r.class from) is ∙ ap (λ (z : Class). class_accessible (file_of c.own.file).flags c.own.class z) to)
  where
    there : recorded_definer (records_of x) d.own.class.loader c.own.class.name ≡ Some c.own.class.loader
    there = subst (λ (z : Class). recorded_definer (records_of x) d.own.class.loader z.name ≡ Some z.loader) f (subst (λ (z : Class). recorded_definer (records_of x) z.loader k.name ≡ Some k.loader) e (sym (same m.loader k.name) ∙ found))

    by_test : (t : Bool) → t ≡ class_accessible (file_of c.own.file).flags c.own.class d.own.class → Decides t (IsReached x d c)
    by_test true g = record { config = config; recorded = there; accessible = sym g }
    by_test false g = λ r. let h : false ≡ true = g ∙ r.accessible in absurd cc

-- both halves of what a reference was made from
pub both_stand : (x : Shown) (d c : Lined) (b : Bool) → IsStanding x d → Decides b (IsReached x d c) → Decides b (IsStanding x d × IsReached x d c)
both_stand x d c true one h = (one, h)
both_stand x d c false one h = λ two. h two.1

-- an equality of a list may be imposed
pub impose_by : (x : Shown) (e : Listed) (k : ℕ) (b : Bool) → OriginStands x e.origin → k < length e.needs → Decides b (AllMet (state_of x) (needs_of (take k e.needs))) → Decides b (MayImpose x e k)
impose_by x e k true stands within h = record { stands = stands; within = within; earlier = subst (AllMet (state_of x)) (sym (needs_taken e.needs k)) h }
impose_by x e k false stands within h = λ may. h (subst (AllMet (state_of x)) (needs_taken e.needs k) may.earlier)

-- a class may be prepared
pub ready_by : (x : Shown) (l : Lined) (needs : List Equality) (b : Bool) → IsStanding x l → ArePreparedAbove x l.own.class (supers (file_of l.own.file)) → Decides b (AllMet (state_of x) (needs_of needs)) → Decides b (IsReady x l (needs_of needs))
ready_by x l needs true stands above h = record { stands = stands; above = above; imposed = h }
ready_by x l needs false stands above h = λ ready. h ready.imposed

-- ---- direct supertypes

-- the supertype that was looked up is prepared, if it is
pub above_by : (x : Shown) (c : Class) (a : Above) (row : Rowed) (b : Bool) → Records (state_of x) c.loader a.name row.class → Decides b (Contains (state_of x).prepared row.class) → Decides b (IsPreparedAbove x c a)
above_by x c a row true r h = record { place = row.class.loader; recorded = r.1; prepared = subst (λ (n : List ℕ). Contains (state_of x).prepared (class n row.class.loader)) r.0 h }
above_by x c a row false r h =
    λ p.
    let same : row.class.loader ≡ p.place = some_same row.class.loader p.place (sym r.1 ∙ p.recorded) in
    h (subst (λ (d : Class). Contains (state_of x).prepared d) (ap (λ (n : List ℕ). class n p.place) (sym r.0) ∙ ap (λ (q : ℕ). class row.class.name q) (sym same)) p.prepared)

pub above_none : (x : Shown) (c : Class) (a : Above) → LacksRecord x c.loader a.name → IsPreparedAbove x c a → ⊥
above_none x c a none p = none_not_some _ none p.recorded

-- ---- an equality of a list

-- the one that was read stands at its place
pub read_at : (xs ys : List Equality) (i : ℕ) (n : Equality) → xs ≡ ys → i < length ys → n ≡ get_or xs i n → slice_get ys i ≡ Some n
read_at xs ys i n same h e = slice_get_read ys (length ys) i n refl h (e ∙ ap (λ (zs : List Equality). get_or zs i n) same)

pub next_of : (P : Need → Type 0) (e : Listed) (k : ℕ) (n : Equality) → slice_get e.needs k ≡ Some n → P (equal_need n) → IsNextOf e k P
next_of P e k n at h = subst (λ (o : Option Equality). IfSome o (λ m. P (equal_need m))) (sym at) h

pub imposes_old : (x : Shown) (e : Listed) (k : ℕ) (n : Equality) → slice_get e.needs k ≡ Some n → Met (state_of x) (equal_need n) → Imposes x x e k
imposes_old x e k n at met = subst (λ (o : Option Equality). IfSome o (Constrains x x)) (sym at) (inl (met, refl))

pub imposes_new : (x y : Shown) (e : Listed) (k : ℕ) (n : Equality) → slice_get e.needs k ≡ Some n → (Met (state_of x) (equal_need n) → ⊥) → (Refused (state_of x) (equal_need n) → ⊥) → y ≡ with_constrain x n → Imposes x y e k
imposes_new x y e k n at unmet free is = subst (λ (o : Option Equality). IfSome o (Constrains x y)) (sym at) (inr (unmet, free, is))

-- ---- a preparation

-- what may be marked the machine may prepare, where a content is told
pub marks_as : (told : Option Content) (x : Shown) (e : Listed) (l : Lined) (c : Class) → OfPreparation l ≡ e.origin → c ≡ l.own.class → IsKept told x → IsLined told l → AreOf e.origin (needs_of e.needs) → IsReady x l (needs_of e.needs) → (Contains (state_of x).prepared c → ⊥) → MayPrepareAs told x c
marks_as None x e l c is own kept lined are ready free = tt
marks_as (Some content) x e l c is own kept lined are ready free =
    subst (λ (k : Class). MayPrepareAs (Some content) x k) (sym own)
    (marked_is_allowed content x l e.needs kept (record { lineages = lined; are = subst (λ (o : Sprung). AreOf o (needs_of e.needs)) (sym is) are }) ready (subst (λ (k : Class). Contains (state_of x).prepared k → ⊥) own free))

pub prepared_by : (x : Shown) (o : Sprung) (l : Lined) (c : Class) → OfPreparation l ≡ o → c ≡ l.own.class → Contains (state_of x).prepared c → IsPreparedBy x o
prepared_by x o l c is own h = subst (λ (p : Sprung). IsPreparedBy x p) is (subst (λ (k : Class). Contains (state_of x).prepared k) own h)

-- and so it is marked, where nothing changes
pub marked_by : (x : Shown) (o : Sprung) (l : Lined) (c : Class) → OfPreparation l ≡ o → c ≡ l.own.class → Contains (state_of x).prepared c → MarksBy x x o
marked_by x o l c is own h = subst (λ (p : Sprung). MarksBy x x p) is (inl (subst (λ (k : Class). Contains (state_of x).prepared k) own h, refl))

-- memory ran out for a class that may be prepared and is not
pub mark_lacks : (x : Shown) (e : Listed) (l : Lined) (c : Class) → OfPreparation l ≡ e.origin → c ≡ l.own.class → IsReady x l (needs_of e.needs) → (Contains (state_of x).prepared c → ⊥) → MarkRefusedFor x e Memory
mark_lacks x e l c is own ready free = (
  subst (λ (o : Sprung). IsReadyBy x o (needs_of e.needs)) is ready,
  λ h. free (subst (λ (k : Class). Contains (state_of x).prepared k) (sym own) (subst (λ (o : Sprung). IsPreparedBy x o) (sym is) h)),
)
