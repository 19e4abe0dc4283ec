-- The walk that tells what the bytes of a text are.
use Rattle.std.proofs.Common.{◌≡◌, ℕ, zero, suc, ◌+◌, ◌*◌, ◌^◌, ◌<◌, ◌≤◌, min, max, ◌==◌, Bool, true, false, cond, not, List, [], ◌∷◌, ◌&&◌, ◌||◌, drop, take, eqb, get_or, length, refl, sym, ap, ◌∙◌, add-one, arith, inl, inr}
use Rattle.std.specs.List.{list_all}
use Rattle.std.proofs.Math.Seq.{drop-cons}
use Rattle.std.proofs.lemmas.Bool.Decides.{nat_tests}
use Rattle.std.specs.Bool.{beq}
use Rattle.std.specs.Int.{bit_at}
use Rattle.std.specs.Int.RustNames.{bit_or}
use Rattle.std.proofs.Common.{bit_and}
use Rattle.std.proofs.lemmas.Bool.{and_parts, cases_eq, ne_eqb, false≢true}
use Rattle.std.proofs.lemmas.Nat.Bits.{and_pow, bit_at_and, bit_at_or, bit_at-lt}
use Rattle.cl_names.specs.Bits.{lacks}
use Rattle.std.proofs.lemmas.List.Folds.{list_all_more}
use Rattle.std.proofs.lemmas.List.{length-drop, nil_from_length}
use Rattle.cl_names.specs.Text.{is_single, is_text}
use Rattle.cl_names.specs.Kind.{is_allowed, has_class_form, has_unqualified_form}
use Rattle.cl_names.proofs.Levels.{parts_from, class_parts, unqualified_split}

-- bytes that spell a code unit each are a text
pub single_text : (bytes : List ℕ) → list_all is_single bytes ≡ true → is_text bytes ≡ true
unfolding is_text
single_text [] h = refl
single_text (a ∷ []) h = (and_parts (is_single a) true h).0
single_text (a ∷ b ∷ []) h = let k = and_parts (is_single a) (list_all is_single (b ∷ [])) h in rw k.0 (single_text (b ∷ []) k.1)
single_text (a ∷ b ∷ c ∷ rest) h = let k = and_parts (is_single a) (list_all is_single (b ∷ c ∷ rest)) h in rw k.0 (single_text (b ∷ c ∷ rest) k.1)

-- ---- the table of marks

-- the tests agree below n
unfoldable pub agree_below : (ℕ → Bool) → (ℕ → Bool) → ℕ → Bool
agree_below f g zero = true
agree_below f g (suc n) = beq (f n) (g n) && agree_below f g n

both_of : (x y rest : Bool) → (beq x y && rest) ≡ true → (x ≡ y) × (rest ≡ true)
both_of true true rest h = (refl, h)
both_of true false rest h = absurd (false≢true h)
both_of false true rest h = absurd (false≢true h)
both_of false false rest h = (refl, h)

agree_at : (f g : ℕ → Bool) (n : ℕ) → agree_below f g n ≡ true → (b : ℕ) → b < n → f b ≡ g b
unfolding agree_below
agree_at f g zero h b lt = absurd (omega (arith, lt))
agree_at f g (suc n) h b lt =
    let both = both_of (f n) (g n) (agree_below f g n) h in
    elim (cases_eq b n) [ inl same ↦ rw same both.0 | inr other ↦ agree_at f g n both.1 b (omega (arith, lt, other)) ]

-- a table agrees with a test of bytes
pub agrees : (table : List ℕ) (k : ℕ) (test : ℕ → Bool) (b : ℕ) → b < 256 → agree_below (λ n. lacks k (get_or table n 0)) test 256 ≡ true → lacks k (get_or table b 0) ≡ test b
agrees table k test b lt h = agree_at (λ n. lacks k (get_or table n 0)) test 256 h b lt

lacks_or : (k a b : ℕ) → lacks k (bit_or a b) ≡ lacks k a && lacks k b
lacks_or k a b = ap (λ (n : ℕ). n == 0) (bit_at_or a b k) ∙ zero_max (bit_at a k) (bit_at b k)
  where
    zero_max : (x y : ℕ) → (max x y == 0) ≡ (x == 0) && (y == 0)
    zero_max x y = grind (arith, nat_tests)

lacks_and : (k a b : ℕ) → lacks k (bit_and a b) ≡ lacks k a || lacks k b
lacks_and k a b = ap (λ (n : ℕ). n == 0) (bit_at_and a b k) ∙ zero_min (bit_at a k) (bit_at b k)
  where
    zero_min : (x y : ℕ) → (min x y == 0) ≡ (x == 0) || (y == 0)
    zero_min x y = grind (arith, nat_tests)

-- ---- each byte by itself

-- what was seen of bytes lacks a mark where each byte passes its test
pub one_tested : (k : ℕ) (p : ℕ → Bool) (seen marks : ℕ) (bytes : List ℕ) (i : ℕ) → i < length bytes → lacks k marks ≡ p (get_or bytes i 0)
    → lacks k seen ≡ list_all p (take i bytes) → lacks k (bit_or seen marks) ≡ list_all p (take (i + 1) bytes)
one_tested k p seen marks bytes i lt one so_far = lacks_or k seen marks ∙ rw (so_far, one) (sym (list_all_more p bytes i 0 lt))

-- a mark is lacked where its bit alone is 0
pub lacked : (n k : ℕ) → (2 ^ k ≡ 0 → ⊥) → (bit_and n (2 ^ k) == 0) ≡ lacks k n
lacked n k some = ap (λ (m : ℕ). m == 0) (and_pow n k) ∙ choose (bit_at n k) (bit_at-lt n k)
  where
    choose : (b : ℕ) → b < 2 → (b * 2 ^ k == 0) ≡ (b == 0)
    choose zero lt = let none : 0 * 2 ^ k ≡ 0 = omega arith in rw none refl
    choose (suc zero) lt = let one : 1 * 2 ^ k ≡ 2 ^ k = omega arith in rw one (ne_eqb (2 ^ k) 0 some)
    choose (suc (suc b)) lt = absurd (omega (arith, lt))

-- each byte is allowed, and there are some
pub unqualified_is : (bytes : List ℕ) (all empty : Bool) → all ≡ list_all is_allowed bytes → empty ≡ (length bytes == 0) → (all && not empty) ≡ has_unqualified_form bytes
unqualified_is [] all empty e f = rw f (and_false all)
  where
    and_false : (b : Bool) → (b && false) ≡ false
    and_false true = refl
    and_false false = refl
unqualified_is (b ∷ bytes) all empty e f =
    let some : empty ≡ false = f ∙ ne_eqb (length (b ∷ bytes)) 0 (λ z. omega (arith, z)) in
    rw some (and_true all) ∙ e ∙ sym (unqualified_split (b ∷ bytes) (omega arith))
  where
    and_true : (b : Bool) → (b && true) ≡ b
    and_true true = refl
    and_true false = refl

-- ---- a class's name: what was seen, and what is to come behind the last byte

-- so far there is no byte that a class's name may not have, and no two slashes; the last byte was a slash, or none
abbrev pub AreParts : ℕ → ℕ → ℕ → List ℕ → ℕ → Type 0
AreParts seen twice last bytes i = ((lacks 4 seen && lacks 3 twice) && parts_from (not (lacks 3 last)) (drop i bytes)) ≡ parts_from true bytes

regroup : (a b c : Bool) → ((a && b) && c) ≡ (a && (b && c))
regroup true b c = refl
regroup false b c = refl

one_byte : (class fresh slash allowed begins goes : Bool) → (slash ≡ true → allowed ≡ false)
    → ((class && (allowed || (slash && not fresh))) && cond slash begins goes) ≡ (class && cond slash (not fresh && begins) (allowed && goes))
one_byte class fresh true true begins goes h = absurd (false≢true (sym (h refl)))
one_byte class fresh true false begins goes h = regroup class (not fresh) begins
one_byte class fresh false true begins goes h = regroup class true goes
one_byte class fresh false false begins goes h = regroup class false goes

not_not : (b : Bool) → not (not b) ≡ b
not_not true = refl
not_not false = refl

none : (b : ℕ) → eqb b 47 ≡ true → is_allowed b ≡ false
none b e = grind (arith, nat_tests)

either : (slash : Bool) (rest : List ℕ) → parts_from slash rest ≡ cond slash (parts_from true rest) (parts_from false rest)
either true rest = refl
either false rest = refl

one_more : (class fresh : Bool) (b : ℕ) (rest : List ℕ) → ((class && (is_allowed b || (b == 47 && not fresh))) && parts_from (b == 47) rest) ≡ (class && parts_from fresh (b ∷ rest))
unfolding parts_from
one_more class fresh b rest =
    ap (λ (r : Bool). (class && (is_allowed b || (b == 47 && not fresh))) && r) (either (b == 47) rest)
    ∙ one_byte class fresh (b == 47) (is_allowed b) (parts_from true rest) (parts_from false rest) (none b)

-- what the marks of one byte say
marked : (seen twice last slash allowed : Bool) → (slash ≡ true → allowed ≡ false) → ((seen && (allowed || slash)) && (twice && (not slash || last))) ≡ ((seen && twice) && (allowed || (slash && last)))
marked seen twice last true true h = absurd (false≢true (sym (h refl)))
marked true twice last true false h = refl
marked false twice last true false h = refl
marked true true last false true h = refl
marked true false last false true h = refl
marked false twice last false true h = refl
marked true true last false false h = refl
marked true false last false false h = refl
marked false twice last false false h = refl

pub goes_on : (seen twice last marks : ℕ) (bytes : List ℕ) (i : ℕ) → i < length bytes → lacks 3 marks ≡ not (get_or bytes i 0 == 47) → lacks 4 marks ≡ is_allowed (get_or bytes i 0) || get_or bytes i 0 == 47
    → AreParts seen twice last bytes i → AreParts (bit_or seen marks) (bit_or twice (bit_and marks last)) marks bytes (i + 1)
goes_on seen twice last marks bytes i lt slash parted so_far =
    let b = get_or bytes i 0 in
    let rest = drop (i + 1) bytes in
    let back : drop i bytes ≡ b ∷ rest = drop-cons bytes i 0 lt ∙ rw add-one refl in
    let seen_is : lacks 4 (bit_or seen marks) ≡ lacks 4 seen && (is_allowed b || b == 47) = lacks_or 4 seen marks ∙ ap (λ (x : Bool). lacks 4 seen && x) parted in
    let twice_is : lacks 3 (bit_or twice (bit_and marks last)) ≡ lacks 3 twice && (not (b == 47) || lacks 3 last) =
    lacks_or 3 twice (bit_and marks last) ∙ ap (λ (x : Bool). lacks 3 twice && x) (lacks_and 3 marks last ∙ ap (λ (x : Bool). x || lacks 3 last) slash) in
    let fresh_is : not (lacks 3 marks) ≡ (b == 47) = ap not slash ∙ not_not (b == 47) in
    rw (seen_is, twice_is, fresh_is)
    (ap (λ (x : Bool). x && parts_from (b == 47) rest) (marked (lacks 4 seen) (lacks 3 twice) (lacks 3 last) (b == 47) (is_allowed b) (none b))
    ∙ ap (λ (x : Bool). ((lacks 4 seen && lacks 3 twice) && (is_allowed b || (b == 47 && x))) && parts_from (b == 47) rest) (sym (not_not (lacks 3 last)))
    ∙ one_more (lacks 4 seen && lacks 3 twice) (not (lacks 3 last)) b rest
    ∙ ap (λ (r : List ℕ). (lacks 4 seen && lacks 3 twice) && parts_from (not (lacks 3 last)) r) (sym back) ∙ so_far)

pub ends : (seen twice last : ℕ) (bytes : List ℕ) (i : ℕ) → length bytes ≤ i → AreParts seen twice last bytes i → ((lacks 4 seen && lacks 3 twice) && lacks 3 last) ≡ has_class_form bytes
unfolding parts_from
ends seen twice last bytes i le so_far =
    let none : drop i bytes ≡ [] = nil_from_length _ (omega (arith, length-drop i bytes)) in
    ap (λ (x : Bool). (lacks 4 seen && lacks 3 twice) && x) (sym (not_not (lacks 3 last))) ∙ ap (λ (r : List ℕ). (lacks 4 seen && lacks 3 twice) && parts_from (not (lacks 3 last)) r) (sym none) ∙ so_far ∙ sym (class_parts bytes)
