-- A class's file lies in its directory.
use Rattle.std.proofs.Common.{◌≡◌, ◌≢◌, ℕ, ◌+◌, ◌<◌, ◌≤◌, Bool, true, false, cond, List, [], ◌∷◌, ◌++◌, length, Option, Some, None, option_map, refl, sym, ap, subst, ◌∙◌, ltb, eqb, arith, inl, inr, codes, append_assoc}
use Rattle.std.specs.Char.{encode_utf8}
use Rattle.std.specs.List.{AllByRecursion, slice_split, join_with_byte}
use Rattle.std.proofs.lemmas.Bool.{cases_Bool, ne_eqb}
use Rattle.std.proofs.lemmas.List.{append-nil, length-append}
use Rattle.std.proofs.lemmas.List.Splits.{slice_split_none, slice_split_at}
use Rattle.std.proofs.lemmas.List.Elements.{All-from_recursion}
use Rattle.std.proofs.lemmas.Str.{encode_ascii}
use Rattle.cl_names.specs.Kind.{code_points, IsAllowed, IsUnqualified, IsClass, IsNameOf}
use Rattle.cl_names.specs.Plain.{is_plain_point, utf8_of, points_of, plain_of}
use Rattle.cl_names.proofs.Units.{units_all}
use Rattle.cl_source.specs.Directories.{within, file_path, IsEntryName, StaysWithin}

-- ---- characters

-- neither a dot nor a slash
abbrev IsClear : ℕ → Type 0
IsClear b = (b ≢ 46) × (b ≢ 47)

large : (b : ℕ) → 128 ≤ b → IsClear b
large b h = (λ e. omega (arith, h, e), λ e. omega (arith, h, e))

-- the bytes of a character that is neither are none of them either
clear_bytes : (p : ℕ) → IsAllowed p → AllByRecursion IsClear (encode_utf8 p)
unfolding encode_utf8
clear_bytes p h =
    elim (cases_Bool (ltb p 128)) [
      | inl a ↦ rw a ((h.0, h.3), tt)
      | inr a ↦ elim (cases_Bool (ltb p 2048)) [
        | inl b ↦ rw (a, b) (large _ (omega arith), (large _ (omega arith), tt))
        | inr b ↦ elim (cases_Bool (ltb p 65536)) [
          | inl c ↦ rw (a, b, c) (large _ (omega arith), (large _ (omega arith), (large _ (omega arith), tt)))
          | inr c ↦ rw (a, b, c) (large _ (omega arith), (large _ (omega arith), (large _ (omega arith), (large _ (omega arith), tt))))
        ]
      ]
    ]

some_bytes : (p : ℕ) → 0 < length (encode_utf8 p)
unfolding encode_utf8
some_bytes p = grind arith

all_append : (xs ys : List ℕ) → AllByRecursion IsClear xs → AllByRecursion IsClear ys → AllByRecursion IsClear (xs ++ ys)
all_append [] ys h k = k
all_append (x ∷ xs) ys h k = (h.0, all_append xs ys h.1 k)

-- ---- texts

-- the text of a first character, and of what follows it
record IsNext (p : ℕ) (ps t : List ℕ) : Type 0 where
  rest : List ℕ
  others : utf8_of ps ≡ Some rest
  whole : t ≡ encode_utf8 p ++ rest

next_of : (b : Bool) (front t : List ℕ) (o : Option (List ℕ)) → cond b (option_map (λ r. front ++ r) o) None ≡ Some t → (rest : List ℕ) × (o ≡ Some rest) × (t ≡ front ++ rest)
next_of true front t (Some r) e = (r, refl, cc)
next_of true front t None e = absurd cc
next_of false front t o e = absurd cc

next : (p : ℕ) (ps t : List ℕ) → utf8_of (p ∷ ps) ≡ Some t → IsNext p ps t
next p ps t e = let n = next_of (is_plain_point p) (encode_utf8 p) t (utf8_of ps) e in record { rest = n.0; others = n.1; whole = n.2 }

-- the text of a part, and of what follows it
record IsCut (xs ys t : List ℕ) : Type 0 where
  front : List ℕ
  rest : List ℕ
  some : 0 < length xs → 0 < length front
  each : AllByRecursion IsClear front
  others : utf8_of ys ≡ Some rest
  whole : t ≡ front ++ rest

cut : (xs ys t : List ℕ) → AllByRecursion IsAllowed xs → utf8_of (xs ++ ys) ≡ Some t → IsCut xs ys t
cut [] ys t h e = record { front = []; rest = t; some = λ l. l; each = tt; others = e; whole = refl }
cut (x ∷ xs) ys t h e =
    let n = next x (xs ++ ys) t e in
    let c = cut xs ys n.rest h.1 n.others in
    record {
      front = encode_utf8 x ++ c.front;
      rest = c.rest;
      some = λ l. omega (arith, some_bytes x, length-append (encode_utf8 x) c.front);
      each = all_append (encode_utf8 x) c.front (clear_bytes x h.0) c.each;
      others = c.others;
      whole = n.whole ∙ ap (λ (r : List ℕ). encode_utf8 x ++ r) c.whole ∙ sym (append_assoc (encode_utf8 x) c.front c.rest);
    }

-- ---- parts

abbrev is_slash : ℕ → Bool
is_slash b = eqb b 47

no_slash : (xs : List ℕ) → AllByRecursion IsClear xs → AllByRecursion (λ b. is_slash b ≡ false) xs
no_slash [] h = tt
no_slash (x ∷ xs) h = (ne_eqb x 47 h.0.1, no_slash xs h.1)

entry : (part : List ℕ) → 0 < length part → AllByRecursion IsClear part → IsEntryName part
entry part some each =
    (λ e. omega (arith, some, ap length e), λ e. (subst (AllByRecursion IsClear) e each).0.0 refl, λ e. (subst (AllByRecursion IsClear) e each).0.0 refl)

-- the last part, with what follows it
last_slash : (xs : List ℕ) → AllByRecursion IsClear xs → AllByRecursion (λ b. is_slash b ≡ false) (xs ++ codes ".class")
last_slash [] h = (refl, (refl, (refl, (refl, (refl, (refl, tt))))))
last_slash (x ∷ xs) h = (ne_eqb x 47 h.0.1, last_slash xs h.1)

last_entry : (part : List ℕ) → IsEntryName (part ++ codes ".class")
last_entry part =
    let long : length (part ++ codes ".class") ≡ length part + 6 = length-append part (codes ".class") in
    (λ e. omega (arith, long, ap length e), λ e. omega (arith, long, ap length e), λ e. omega (arith, long, ap length e))

abbrev AreEntries : List ℕ → Type 0
AreEntries text = AllByRecursion IsEntryName (slice_split is_slash text)

last_stays : (part : List ℕ) → AllByRecursion IsClear part → AreEntries (part ++ codes ".class")
last_stays part h =
    subst (AllByRecursion IsEntryName) (sym (slice_split_none is_slash (part ++ codes ".class") (All-from_recursion (λ b. is_slash b ≡ false) _ (last_slash part h)))) (last_entry part, tt)

part_stays : (part rest : List ℕ) → 0 < length part → AllByRecursion IsClear part → AreEntries rest → AreEntries (part ++ 47 ∷ rest)
part_stays part rest some h k =
    subst (AllByRecursion IsEntryName) (sym (slice_split_at is_slash part 47 rest (All-from_recursion (λ b. is_slash b ≡ false) part (no_slash part h)) refl)) (entry part some h, k)

nothing_more : (t : List ℕ) → utf8_of [] ≡ Some t → t ≡ []
nothing_more t e = cc

stays : (parts : List (List ℕ)) (t : List ℕ) → 0 < length parts → AllByRecursion IsUnqualified parts → utf8_of (join_with_byte 47 parts) ≡ Some t → AreEntries (t ++ codes ".class")
stays [] t l h e = absurd (omega arith)
stays (x ∷ []) t l h e =
    let c = cut x [] t h.0.each (ap utf8_of (append-nil x) ∙ e) in
    let front : t ≡ c.front = c.whole ∙ ap (λ (r : List ℕ). c.front ++ r) (nothing_more c.rest c.others) ∙ append-nil c.front in
    subst (λ (r : List ℕ). AreEntries (r ++ codes ".class")) (sym front) (last_stays c.front c.each)
stays (x ∷ y ∷ parts) t l h e =
    let c = cut x (47 ∷ join_with_byte 47 (y ∷ parts)) t h.0.each e in
    let n = next 47 (join_with_byte 47 (y ∷ parts)) c.rest c.others in
    let rest : c.rest ≡ 47 ∷ n.rest = n.whole ∙ ap (λ (r : List ℕ). r ++ n.rest) (encode_ascii 47 (omega arith)) in
    let whole : t ++ codes ".class" ≡ c.front ++ 47 ∷ (n.rest ++ codes ".class") =
    ap (λ (r : List ℕ). r ++ codes ".class") (c.whole ∙ ap (λ (r : List ℕ). c.front ++ r) rest) ∙ append_assoc c.front (47 ∷ n.rest) (codes ".class") in
    subst AreEntries (sym whole) (part_stays c.front (n.rest ++ codes ".class") (c.some h.0.some) c.each (stays (y ∷ parts) n.rest (omega arith) h.1 n.others))

-- ---- names

text_is : (o : Option (List ℕ)) (f : List ℕ → List ℕ) (path : List ℕ) → option_map f o ≡ Some path → (t : List ℕ) × (o ≡ Some t) × (path ≡ f t)
text_is (Some t) f path e = (t, refl, cc)
text_is None f path e = absurd cc

points_are : (name : List ℕ) (n : IsNameOf IsClass name) → points_of name ≡ code_points n.text.units
points_are name n = ap points_of n.text.spelled ∙ ap code_points (units_all n.text.units n.text.each)

pub class_stays : (dir name path : List ℕ) → IsNameOf IsClass name → file_path dir name ≡ Some path → StaysWithin dir path
class_stays dir name path n e =
    let t = text_is (plain_of name) (λ text. within dir ++ text ++ codes ".class") path e in
    let joined = ap utf8_of (sym (points_are name n ∙ n.kind.joined)) ∙ t.1 in
    record { rest = t.0 ++ codes ".class"; joined = t.2 ∙ append_assoc (within dir) t.0 (codes ".class"); parts = stays n.kind.parts t.0 n.kind.some n.kind.each joined }
