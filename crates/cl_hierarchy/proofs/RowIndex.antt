-- How a table has the rows of more and more classes.
use Rattle.std.proofs.Common.{◌≡◌, ◌∙◌, ℕ, Bor, List, [], ◌∷◌, ◌++◌, Option, Some, None, map, append_assoc, refl, ap}
use Rattle.std.specs.Map.{lookup}
use Rattle.std.specs.Option.{option_copied, option_map}
use Rattle.std.proofs.lemmas.List.{map_push}
use Rattle.cl_model.specs.declared.class.Class.{Class}
use Rattle.cl_classfile.specs.Files.{Name}
use Rattle.cl_model.specs.Classes.{class, same_class}
use Rattle.cl_hierarchy.specs.Rows.{Rowed}
use Rattle.cl_hierarchy.specs.Lineages.{row_of}
use Rattle.cl_hierarchy.specs.RowIndex.{IsRowIndexOf}

-- the table has the rows behind the rest
pub record Indexes {A : Type 0} (row : A → Rowed) (entries : List (Class × A)) (above : List Rowed) (own : Rowed) (rest : List Rowed) : Type 0 where
  pub later : List Rowed
  pub split : above ++ own ∷ [] ≡ rest ++ later
  pub has : IsRowIndexOf row entries later

-- what a look-up gives
pub found_in : {A : Type 0} (row : A → Rowed) (entries : List (Class × A)) (inside rows : List Rowed) (n m : Name) (loader : ℕ) (found : Option (Bor A)) → IsRowIndexOf row entries inside → inside ≡ rows → n ≡ m
    → option_copied found ≡ lookup (same_class (class n loader)) entries → option_map (λ r. row r.now) found ≡ row_of rows (class m loader)
found_in {A} row entries inside rows n m loader found h same named e =
    copied found
    ∙ ap (λ (o : Option A). option_map row o) e
    ∙ h (class n loader)
    ∙ ap (λ (x : Name). row_of inside (class x loader)) named
    ∙ ap (λ (rs : List Rowed). row_of rs (class m loader)) same
  where
    copied : (o : Option (Bor A)) → option_map (λ r. row r.now) o ≡ option_map row (option_copied o)
    copied None = refl
    copied (Some x) = refl

pub index_first : {A : Type 0} (row : A → Rowed) (entries : List (Class × A)) → entries ≡ [] → IsRowIndexOf row entries []
index_first {A} row entries e = λ c. ap (λ (es : List (Class × A)). option_map row (lookup (same_class c) es)) e

pub index_next : {A : Type 0} (row : A → Rowed) (old new : List (Class × A)) (above : List Rowed) (own : Rowed) (rest earlier : List A) (x : A) → rest ≡ earlier ++ x ∷ [] → ((rows : List Rowed) → IsRowIndexOf row old rows → IsRowIndexOf row new (row x ∷ rows))
    → Indexes row old above own (map row rest) → Indexes row new above own (map row earlier)
index_next {A} row old new above own rest earlier x e put h = record {
  later = row x ∷ h.later;
  split = h.split ∙ ap (λ (xs : List A). map row xs ++ h.later) e ∙ ap (λ (rs : List Rowed). rs ++ h.later) (map_push row earlier x) ∙ append_assoc (map row earlier) (row x ∷ []) h.later;
  has = put h.later h.has;
}
