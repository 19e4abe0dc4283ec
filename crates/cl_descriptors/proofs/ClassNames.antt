-- What holds of class names.
use Rattle.std.proofs.Common.{◌≡◌, true, false, eqb, ◌&&◌, List, [], ◌∷◌, ◌++◌, ℕ, refl, subst, arith}
use Rattle.std.specs.Prelude.{length, nat_le}
use Rattle.std.specs.List.{AllByRecursion, list_all, slice_split, join_with_byte}
use Rattle.std.proofs.lemmas.Bool.{and_parts}
use Rattle.std.proofs.lemmas.Bool.Decides.{nat_tests}
use Rattle.std.proofs.lemmas.List.Splits.{join_with_byte-slice_split}
use Rattle.cl_names.specs.Text.{is_text}
use Rattle.cl_names.specs.Kind.{is_class_name, is_allowed, has_unqualified_form, has_class_form}

-- the byte is no semicolon
abbrev IsOther : ℕ → Type 0
IsOther b = eqb b 59 ≡ false

allowed : (b : ℕ) → is_allowed b ≡ true → IsOther b
allowed b e = grind (arith, nat_tests)

-- the bytes of a part, and those behind them
after_part : (part rest : List ℕ) → list_all is_allowed part ≡ true → AllByRecursion IsOther rest → AllByRecursion IsOther (part ++ rest)
after_part [] rest e h = h
after_part (b ∷ part) rest e h = let e' = and_parts (is_allowed b) (list_all is_allowed part) e in (allowed b e'.0, after_part part rest e'.1 h)

form_allowed : (part : List ℕ) → has_unqualified_form part ≡ true → list_all is_allowed part ≡ true
form_allowed [] e = absurd cc
form_allowed (b ∷ part) e = e

last_part : (part : List ℕ) → list_all is_allowed part ≡ true → AllByRecursion IsOther part
last_part [] e = tt
last_part (b ∷ part) e = let e' = and_parts (is_allowed b) (list_all is_allowed part) e in (allowed b e'.0, last_part part e'.1)

joined : (parts : List (List ℕ)) → list_all has_unqualified_form parts ≡ true → AllByRecursion IsOther (join_with_byte 47 parts)
joined [] e = tt
joined (x ∷ []) e = last_part x (form_allowed x (and_parts (has_unqualified_form x) true e).0)
joined (x ∷ y ∷ parts) e =
    let e' = and_parts (has_unqualified_form x) (list_all has_unqualified_form (y ∷ parts)) e in
    after_part x (47 ∷ join_with_byte 47 (y ∷ parts)) (form_allowed x e'.0) (refl, joined (y ∷ parts) e'.1)

pub no_semicolon : (name : List ℕ) → is_class_name name ≡ true → AllByRecursion (λ b. eqb b 59 ≡ false) name
unfolding is_class_name
no_semicolon name e =
    let parts = slice_split (λ b. eqb b 47) name in
    let form : has_class_form name ≡ true = (and_parts (is_text name && nat_le (length name) 65535) (has_class_form name) e).1 in
    subst (λ (n : List ℕ). AllByRecursion IsOther n) (join_with_byte-slice_split 47 name) (joined parts form)
