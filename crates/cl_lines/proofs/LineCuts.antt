-- Cutting a text at a character gives its first line, or its first word.
use Rattle.std.proofs.Common.{◌≡◌, ◌⊎◌, ℕ, ◌+◌, ◌<◌, Bool, true, false, not, ◌==◌, List, [], ◌∷◌, length, filter, refl, ap, arith, inl, inr}
use Rattle.std.specs.List.{slice_split, position_or_len, before_first, after_first}
use Rattle.std.proofs.lemmas.Bool.{cases_lt}
use Rattle.std.proofs.lemmas.Bool.Decides.{nat_tests}
use Rattle.std.proofs.lemmas.Grind.{common_steps}
use Rattle.std.proofs.lemmas.List.Splits.{slice_split_first, slice_split_none, length-slice_split}
use Rattle.std.proofs.lemmas.List.Sums.{fails_before_first, prefix_len-le-length}
use Rattle.cl_lines.specs.Lines.{lines_of, words_of, without_empty_end, numbered_from}

module _ (p : ℕ → Bool) (xs : List ℕ) where
  -- an element passes, or the whole list is one part
  cut_or_whole : (position_or_len p xs < length xs) ⊎ (position_or_len p xs ≡ length xs)
  cut_or_whole = elim (cases_lt (position_or_len p xs) (length xs)) [ inl l ↦ inl l | inr l ↦ let bound = prefix_len-le-length (λ x. not (p x)) xs in inr (omega arith) ]

  whole_part : position_or_len p xs ≡ length xs → slice_split p xs ≡ xs ∷ []
  whole_part e = slice_split_none p xs (λ k d m. let fails = fails_before_first p xs k d (omega arith) in grind (arith, common_steps))

  whole_before : position_or_len p xs ≡ length xs → before_first p xs ≡ xs
  whole_before e = grind (arith, common_steps)

  nothing_after : position_or_len p xs ≡ length xs → after_first p xs ≡ []
  nothing_after e = grind (arith, common_steps)

  -- the parts of a text are its first and those of what follows it, or it is one part, followed by nothing
  pub first_part : (slice_split p xs ≡ before_first p xs ∷ slice_split p (after_first p xs)) ⊎ ((slice_split p xs ≡ xs ∷ []) × (before_first p xs ≡ xs) × (after_first p xs ≡ []))
  first_part = elim cut_or_whole [ inl l ↦ inl (slice_split_first p xs 0 l) | inr e ↦ inr (whole_part e, whole_before e, nothing_after e) ]

keeps_front : (part : List ℕ) (parts : List (List ℕ)) → 0 < length parts → without_empty_end (part ∷ parts) ≡ part ∷ without_empty_end parts
keeps_front part [] h = absurd (omega arith)
keeps_front part (next ∷ more) h = refl

keeps_full : (part : List ℕ) → 0 < length part → without_empty_end (part ∷ []) ≡ part ∷ []
keeps_full [] h = absurd (omega arith)
keeps_full (b ∷ bs) h = grind (arith, common_steps)

first_of_parts : (p : ℕ → Bool) (text : List ℕ) → 0 < length text → without_empty_end (slice_split p text) ≡ before_first p text ∷ without_empty_end (slice_split p (after_first p text))
first_of_parts p text h =
    elim (first_part p text) [
      | inl e ↦ rw e (keeps_front (before_first p text) (slice_split p (after_first p text)) (omega (arith, length-slice_split p (after_first p text))))
      | inr e ↦ rw (e.0, e.1, e.2) (keeps_full text h)
    ]

pub first_line : (number : ℕ) (text line rest : List ℕ) → 0 < length text → line ≡ before_first (λ b. b == 10) text → rest ≡ after_first (λ b. b == 10) text
    → numbered_from number (lines_of text) ≡ record { number = number; text = line } ∷ numbered_from (number + 1) (lines_of rest)
first_line number text line rest h before after = rw (before, after) (ap (numbered_from number) (first_of_parts (λ b. b == 10) text h))

word_kept : (word : List ℕ) (words : List (List ℕ)) → 0 < length word → filter (λ w. not (length w == 0)) (word ∷ words) ≡ word ∷ filter (λ w. not (length w == 0)) words
word_kept [] words h = absurd (omega arith)
word_kept (b ∷ bs) words h = grind (arith, common_steps)

word_left_out : (word : List ℕ) (words : List (List ℕ)) → length word ≡ 0 → filter (λ w. not (length w == 0)) (word ∷ words) ≡ filter (λ w. not (length w == 0)) words
word_left_out word words e = grind (arith, common_steps)

pub first_word : (line word rest : List ℕ) → 0 < length word → word ≡ before_first (λ b. b == 32) line → rest ≡ after_first (λ b. b == 32) line → words_of line ≡ word ∷ words_of rest
first_word line word rest h before after =
    elim (first_part (λ b. b == 32) line) [
      | inl e ↦ rw (e, ← before, ← after) (word_kept word (slice_split (λ b. b == 32) rest) h)
      | inr e ↦ rw (e.0, after, e.2, before, e.1) (word_kept line [] (rw (before, e.1) at h))
    ]

pub no_word : (line word rest : List ℕ) → length word ≡ 0 → word ≡ before_first (λ b. b == 32) line → rest ≡ after_first (λ b. b == 32) line → words_of line ≡ words_of rest
no_word line word rest h before after =
    elim (first_part (λ b. b == 32) line) [
      | inl e ↦ rw (e, ← before, ← after) (word_left_out word (slice_split (λ b. b == 32) rest) h)
      | inr e ↦ rw (e.0, after, e.2) (word_left_out line [] (rw (before, e.1) at h))
    ]

-- the tests of the code
pub some_left : (n : ℕ) (b : Bool) → b ≡ n == 0 → b ≡ false → 0 < n
some_left n b test e = grind (arith, nat_tests)

pub none_left : (n : ℕ) (b : Bool) → b ≡ n == 0 → b ≡ true → n ≡ 0
none_left n b test e = grind (arith, nat_tests)

-- what lost its first item is shorter
pub shorter : {A : Type 0} (xs ys : List A) (y : A) → xs ≡ y ∷ ys → length ys < length xs
shorter xs ys y e = rw e (omega arith)
