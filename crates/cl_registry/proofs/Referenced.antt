-- The table of settled references, and what it has after a call.
use Rattle.std.proofs.Common.{◌≡◌, ◌∙◌, ◌==◌, ◌&&◌, if◌then◌else◌, ℕ, Bool, true, false, List, [], Option, Some, None, refl, sym, ap, subst, cond}
use Rattle.std.specs.Prelude.{Contains, IsSome, nat_eq, option_and_then, OnOk, Result, Ok, Err}
use Rattle.std.specs.Result.{is_err}
use Rattle.std.specs.List.{list_any}
use Rattle.std.specs.Cmp.{IsEquivalence, decided}
use Rattle.std.proofs.lemmas.Map.Views.{Contains-from_any, list_any-from_Contains}
use Rattle.std.specs.Map.{lookup}
use Rattle.std.specs.HashMap.{HashMap, get, IsUnchanged, WritesThrough}
use Rattle.cl_model.specs.declared.class.Class.{Class}
use Rattle.cl_model.specs.Classes.{same_class}
use Rattle.cl_model.specs.States.{State}
use Rattle.cl_model.proofs.Ancestors.{same_self}
use Rattle.cl_model.proofs.Complete.{is_class}
use Rattle.cl_findings.specs.Findings.{Decides}
use Rattle.cl_registry.specs.Parts.{HasSame}
use Rattle.cl_registry.specs.Tables.{reference_in}

-- where what was written through a borrow is what stood, the table has what it had
pub rewritten : {R S : Type 0} (m n : HashMap Class (HashMap ℕ R S) S) (c : Class) (one w : HashMap ℕ R S) → Some one ≡ get same_class m c → IsUnchanged one w → WritesThrough same_class (same_class c) m w n
    → HasSame (reference_in m) (reference_in n)
rewritten {R} {S} m n c one w there same h d i = at (same_class c d) refl
  where
    in_table : Option (HashMap ℕ R S) → Option R
    in_table o = option_and_then (λ t. get nat_eq t i) o

    updates : get same_class n d ≡ cond (same_class c d) (Some w) (get same_class m d)
    updates = (h.3 (subst (λ (o : Option (HashMap ℕ R S)). IsSome o) there refl)).0 d

    at : (b : Bool) → same_class c d ≡ b → reference_in n d i ≡ reference_in m d i
    at true e =
        ap in_table (updates ∙ ap (λ (b : Bool). cond b (Some w) (get same_class m d)) e)
        ∙ ap (λ (es : List (ℕ × R)). lookup (nat_eq i) es) same
        ∙ ap in_table (there ∙ ap (λ (k : Class). get same_class m k) (is_class c d e))
    at false e = ap in_table (updates ∙ ap (λ (b : Bool). cond b (Some w) (get same_class m d)) e)

-- what holds of a call that is not refused
pub of_ok : {A E : Type 0} (P : Type 0) (o : Result A E) → false ≡ is_err o → OnOk o P → P
of_ok P (Ok a) h p = p
of_ok P (Err e) h p = absurd cc

-- the first entry of a class, in a table of its own
pub put_first : {R S : Type 0} (m n : HashMap Class (HashMap ℕ R S) S) (c : Class) (k : ℕ) (r : R) (empty one : HashMap ℕ R S) → get same_class m c ≡ None → empty.entries ≡ []
    → ((i : ℕ) → get nat_eq one i ≡ cond (nat_eq k i) (Some r) (get nat_eq empty i)) → ((d : Class) → get same_class n d ≡ cond (same_class c d) (Some one) (get same_class m d))
    → (d : Class) (i : ℕ) → reference_in n d i ≡ (if same_class c d && (k == i) then Some r else reference_in m d i)
put_first {R} {S} m n c k r empty one absent bare inner outer d i = at (same_class c d) refl
  where
    in_table : Option (HashMap ℕ R S) → Option R
    in_table o = option_and_then (λ t. get nat_eq t i) o

    missing : same_class c d ≡ true → reference_in m d i ≡ None
    missing e = ap in_table (ap (λ (x : Class). get same_class m x) (sym (is_class c d e)) ∙ absent)

    at : (b : Bool) → same_class c d ≡ b → reference_in n d i ≡ (if b && (k == i) then Some r else reference_in m d i)
    at true e =
        ap in_table (outer d ∙ ap (λ (b : Bool). cond b (Some one) (get same_class m d)) e)
        ∙ inner i ∙ ap (λ (o : Option R). cond (nat_eq k i) (Some r) o) (ap (λ (es : List (ℕ × R)). lookup (nat_eq i) es) bare ∙ sym (missing e))
    at false e = ap in_table (outer d ∙ ap (λ (b : Bool). cond b (Some one) (get same_class m d)) e)

same_equiv : IsEquivalence same_class
same_equiv = decided same_class (λ x y. (λ e. is_class x y e, λ e. subst (λ (z : Class). same_class x z ≡ true) e (same_self x)))

-- a test of a set of classes tells whether one is prepared
pub prepared_so : (b : Bool) (s : State) (keys : List Class) (c : Class) → b ≡ list_any (same_class c) keys → keys ≡ s.prepared → Decides b (Contains s.prepared c)
prepared_so true s keys c e is = subst (λ (cs : List Class). Contains cs c) is (Contains-from_any (λ x y h. is_class x y h) c keys (sym e))
prepared_so false s keys c e is = λ has. absurd (let f : false ≡ true = e ∙ list_any-from_Contains same_equiv c keys (subst (λ (cs : List Class). Contains cs c) (sym is) has) in cc)
