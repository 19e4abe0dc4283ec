-- What tests of the tables tell of the verdicts that they bear.
use Rattle.std.proofs.Common.{◌≡◌, ◌≢◌, ◌∙◌, ◌⊎◌, inl, inr, ℕ, Bool, true, false, Option, Some, refl, sym, ap, subst}
use Rattle.std.specs.Prelude.{Contains, MatchBool}
use Rattle.cl_classfile.specs.Files.{Name}
use Rattle.cl_model.specs.declared.class.Class.{Class}
use Rattle.cl_model.specs.declared.settled.Settled.{Settled}
use Rattle.cl_model.specs.declared.verdict.Verdict as rust
use Rattle.cl_model.specs.Classes.{class}
use Rattle.cl_model.specs.States.{State, Verdict, IsClass, IsLinked, BadEntry, ArrayMember, recorded_definer, settled_to}
use Rattle.cl_model.specs.Plans.{Load, Resolve, Link}
use Rattle.cl_model.specs.Tables.{Bears, Records}
use Rattle.cl_model.specs.Views.{verdict_of}
use Rattle.cl_findings.specs.Findings.{Decides}
use Rattle.cl_hierarchy.specs.Rows.{Rowed}
use Rattle.cl_registry.specs.References.{IsSettledIn, IsUnsettled}
use Rattle.cl_registry.specs.Tables.{Shown, state_of, records_of, LacksRecord}
use Rattle.cl_registry.proofs.Verdicts.{verdict_same}
use Rattle.cl_model.proofs.Bind.{none_not_some, value_same}
use Rattle.cl_model.proofs.Tables.{one_linked}

class_same : (c d : Class) → IsClass d ≡ IsClass c → c ≡ d
class_same c d e = cc

-- ---- classes that are loaded or linked

pub bears_class : (b : Bool) (s : State) (l : ℕ) (n : Name) (c : Class) → Decides b (Records s l n c) → Decides b (Bears s (Load l n) (IsClass c))
bears_class true s l n c h = λ d e. subst (λ (k : Class). Records s l n k) (sym (class_same d c e)) h
bears_class false s l n c h = λ all. h (all c refl)

pub bears_no_link : (b : Bool) (s : State) (l : ℕ) (n : Name) (c : Class) → b ≡ false → Decides b (Records s l n c) → Decides b (Bears s (Link l n) (IsLinked c))
bears_no_link true s l n c e h = absurd cc
bears_no_link false s l n c e h = λ all. h (all c refl).0

pub bears_linked : (b : Bool) (s : State) (l : ℕ) (n : Name) (c : Class) → Records s l n c → Decides b (Contains s.prepared c) → Decides b (Bears s (Link l n) (IsLinked c))
bears_linked true s l n c r h = λ d e. subst (λ (k : Class). Records s l n k × Contains s.prepared k) (one_linked d c e) (r, h)
bears_linked false s l n c r h = λ all. h (all c refl).1

-- ---- entries

some_same : (v w : Verdict) (o : Option Verdict) → o ≡ Some v → o ≡ Some w → v ≡ w
some_same v w o e f = cc

-- a loader records one class for a name
pub one_class : (s : State) (l : ℕ) (n : Name) (c d : Class) → Records s l n c → Records s l n d → c ≡ d
one_class s l n c d r t = ap (λ (m : Name). class m c.loader) (r.0 ∙ sym t.0) ∙ ap (λ (p : ℕ). class d.name p) (value_same c.loader d.loader (recorded_definer s.records l n) r.1 t.1)

-- the class of a row that a loader has recorded
row_records : (x : Shown) (l : ℕ) (n : Name) (r : Rowed) (c : Class) → Records (state_of x) l n r.class → c ≡ r.class → Records (state_of x) l n c
row_records x l n r c rec is = subst (λ (d : Class). Records (state_of x) l n d) (sym is) rec

abbrev NeverSettled : Verdict → Type 0
NeverSettled v = (v ≡ BadEntry) ⊎ (v ≡ ArrayMember)

pub bears_unrecorded : (x : Shown) (l i : ℕ) (n : Name) (v : Verdict) → LacksRecord x l n → Bears (state_of x) (Resolve l n i) v
bears_unrecorded x l i n v none = λ d r. absurd (none_not_some (recorded_definer (records_of x) l n) none r.1)

-- the entry of a class that is recorded is not settled
pub bears_unsettled : (x : Shown) (l i : ℕ) (n : Name) (r : Rowed) (c : Class) (v : Verdict) → Records (state_of x) l n r.class → c ≡ r.class → IsUnsettled x c i → (NeverSettled v → ⊥) → Bears (state_of x) (Resolve l n i) v → ⊥
bears_unsettled x l i n r c v rec is none not all =
    elim (all c (row_records x l n r c rec is)) [
      | inl e ↦ not (inl e)
      | inr more ↦ elim more [ inl e ↦ not (inr e) | inr e ↦ none_not_some (settled_to (state_of x).settled c i) none.verdict e ]
    ]

-- or is settled to this
pub bears_settled : (b : Bool) (x : Shown) (l i : ℕ) (n : Name) (r : Rowed) (c : Class) (s : Settled) (v : rust.Verdict) → Records (state_of x) l n r.class → c ≡ r.class → IsSettledIn x c i s → (NeverSettled (verdict_of v) → ⊥)
    → MatchBool b (s.verdict ≡ v) (s.verdict ≢ v) → Decides b (Bears (state_of x) (Resolve l n i) (verdict_of v))
bears_settled true x l i n r c s v rec is at not same =
    λ d t.
    inr (inr (subst (λ (k : Class). settled_to (state_of x).settled k i ≡ Some (verdict_of v)) (one_class (state_of x) l n c d (row_records x l n r c rec is) t) (at.verdict ∙ ap (λ (w : rust.Verdict). Some (verdict_of w)) same)))
bears_settled false x l i n r c s v rec is at not other =
    λ all.
    elim (all c (row_records x l n r c rec is)) [
      | inl e ↦ not (inl e)
      | inr more ↦ elim more [
        | inl e ↦ not (inr e)
        | inr e ↦ other (verdict_same s.verdict v (some_same (verdict_of s.verdict) (verdict_of v) (settled_to (state_of x).settled c i) at.verdict e))
      ]
    ]
