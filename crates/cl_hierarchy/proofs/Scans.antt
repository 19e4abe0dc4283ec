-- A scan of rows from the last: where the row of a class stands.
use Rattle.std.proofs.Common.{◌≡◌, ◌∙◌, ◌+◌, ◌≤◌, arith, length, length-append, Bool, true, false, List, [], ◌∷◌, ◌++◌, Some, map, append_assoc, sym, ap}
use Rattle.std.proofs.lemmas.List.{map_push}
use Rattle.cl_model.specs.declared.class.Class.{Class}
use Rattle.cl_model.specs.Classes.{same_class}
use Rattle.cl_model.specs.Lineages.{Kin}
use Rattle.cl_hierarchy.specs.Rows.{Rowed}
use Rattle.cl_hierarchy.specs.Trees.{kin_named, kin_under, kins}
use Rattle.cl_hierarchy.proofs.Ancestry.{kins_push, named_first, named_later}

-- none of the rows behind the rest is of this class
pub record Scans (rows rest : List Rowed) (c : Class) : Type 0 where
  pub later : List Rowed
  pub split : rows ≡ rest ++ later
  pub same : kin_named (kins rest) c ≡ kin_named (kins rows) c

module _ (rows rest earlier : List Rowed) (r : Rowed) (c : Class) (last : rest ≡ earlier ++ r ∷ []) (h : Scans rows rest c) where
  whole : kin_named (kin_under (kins earlier) r ∷ kins earlier) c ≡ kin_named (kins rows) c
  whole = sym (ap (λ (rs : List Rowed). kin_named (kins rs) c) last ∙ ap (λ (ks : List Kin). kin_named ks c) (kins_push [] earlier r)) ∙ h.same

  placed : rows ≡ earlier ++ r ∷ h.later
  placed = h.split ∙ ap (λ (rs : List Rowed). rs ++ h.later) last ∙ append_assoc earlier (r ∷ []) h.later

  found : same_class c r.class ≡ true → Some (kin_under (kins earlier) r) ≡ kin_named (kins rows) c
  found e = sym (named_first (kins earlier) r c e) ∙ whole

  passed : same_class c r.class ≡ false → Scans rows earlier c
  passed e = record { later = r ∷ h.later; split = placed; same = sym (named_later (kins earlier) r c e) ∙ whole }

-- ---- the same of lists of what rows lie behind

pub shorter : {A : Type 0} (rows rest earlier : List A) (row : A) → rest ≡ earlier ++ row ∷ [] → length rest ≤ length rows → length earlier ≤ length rows
shorter {A} rows rest earlier row e h =
    let l : length rest ≡ length earlier + 1 = ap (λ (xs : List A). length xs) e ∙ length-append earlier (row ∷ []) in
    omega (arith, l, h)

module _ {A : Type 0} (v : A → Rowed) (rows rest earlier : List A) (row : A) (c x : Class) (d : Rowed) (b : Bool) (e : rest ≡ earlier ++ row ∷ []) (of : x ≡ d.class) (is : d ≡ v row) (told : b ≡ same_class c x) (h : Scans (map v rows) (map v rest) c) where
  last_in : map v rest ≡ map v earlier ++ v row ∷ []
  last_in = ap (λ (xs : List A). map v xs) e ∙ map_push v earlier row

  tested : b ≡ same_class c (v row).class
  tested = told ∙ ap (λ (y : Class). same_class c y) (of ∙ ap (λ (z : Rowed). z.class) is)

  pub found_in : b ≡ true → Some (kin_under (kins (map v earlier)) (v row)) ≡ kin_named (kins (map v rows)) c
  found_in t = found (map v rows) (map v rest) (map v earlier) (v row) c last_in h (sym tested ∙ t)

  pub passed_in : b ≡ false → Scans (map v rows) (map v earlier) c
  passed_in t = passed (map v rows) (map v rest) (map v earlier) (v row) c last_in h (sym tested ∙ t)
