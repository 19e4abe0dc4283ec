-- A row that is put to the table of its loader.
use Rattle.std.proofs.Common.{◌≡◌, ◌∙◌, ℕ, Bool, true, false, List, Option, Some, refl, sym, ap, subst, cond, if◌then◌else◌}
use Rattle.std.specs.Prelude.{◌&&◌, nat_eq, option_and_then, slice_get, slice_set}
use Rattle.std.specs.Cmp.Lexicographic.{pointwise}
use Rattle.std.specs.HashMap.{HashMap, get}
use Rattle.cl_registry.specs.Parts.{IsPut}
use Rattle.cl_registry.specs.Tables.{table_row}
use Rattle.cl_registry.proofs.Counts.{get_set_same, get_set_other}
use Rattle.cl_registry.proofs.Histories.{eq_nat}

-- the table of one loader has a row more, so the tables have
pub row_put : {R S : Type 0} (rows : List (HashMap (List ℕ) R S)) (k loader : ℕ) (old one : HashMap (List ℕ) R S) (name : List ℕ) (row : R) → k ≡ loader → slice_get rows k ≡ Some old
    → ((n : List ℕ) → get (pointwise nat_eq) one n ≡ cond (pointwise nat_eq name n) (Some row) (get (pointwise nat_eq) old n)) → IsPut (table_row rows) (table_row (slice_set rows k one)) loader name row
row_put {R} {S} rows k loader old one name row same there put l n = subst (λ (i : ℕ). table_row (slice_set rows k one) l n ≡ (if nat_eq i l && pointwise nat_eq name n then Some row else table_row rows l n)) same (at (nat_eq k l) refl)
  where
    in_table : Option (HashMap (List ℕ) R S) → Option R
    in_table o = option_and_then (λ m. get (pointwise nat_eq) m n) o

    at : (b : Bool) → nat_eq k l ≡ b → table_row (slice_set rows k one) l n ≡ (if b && pointwise nat_eq name n then Some row else table_row rows l n)
    at true e =
        let here : k ≡ l = eq_nat k l e in
        ap in_table (ap (slice_get (slice_set rows k one)) (sym here) ∙ get_set_same rows k one old there)
        ∙ put n ∙ ap (λ (o : Option R). cond (pointwise nat_eq name n) (Some row) o) (ap in_table (sym there ∙ ap (slice_get rows) here))
    at false e = ap in_table (get_set_other rows k l one e)
