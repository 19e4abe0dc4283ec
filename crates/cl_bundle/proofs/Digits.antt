-- The digits of a class section, line by line.
use Rattle.std.proofs.Common.{◌≡◌, ℕ, List, [], ◌∷◌, ◌++◌, Option, Some, None, option_map, option_and_then, refl, ap, ◌∙◌, append-nil}
use Rattle.cl_names.proofs.Plains.{with_front}
use Rattle.cl_lines.specs.Lines.{Numbered, words_of}
use Rattle.cl_bundle.specs.Contents.{all_digits, line_digits}

-- the lines before those that are left have these digits
pub record IsJoined (lines left : List Numbered) (digits : List ℕ) : Type 0 where
  pub all : all_digits lines ≡ option_map (λ rest. digits ++ rest) (all_digits left)

nothing_before : (o : Option (List ℕ)) → o ≡ option_map (λ rest. [] ++ rest) o
nothing_before None = refl
nothing_before (Some rest) = refl

pub joined_first : (lines : List Numbered) → IsJoined lines lines []
joined_first lines = record { all = nothing_before (all_digits lines) }

-- a line with digits, in front of others
digits_then : (digits new : List ℕ) (o p : Option (List ℕ)) → option_map (λ more. digits ++ more) o ≡ Some new
    → option_map (λ rest. digits ++ rest) (option_and_then (λ front. option_map (λ rest. front ++ rest) p) o) ≡ option_map (λ rest. new ++ rest) p
digits_then digits new None p e = absurd cc
digits_then digits new (Some more) p e = with_front digits more p ∙ ap (λ (front : List ℕ). option_map (λ rest. front ++ rest) p) (some_is e)
  where
    some_is : Some (digits ++ more) ≡ Some new → digits ++ more ≡ new
    some_is e = cc

pub joined_more : (lines left after : List Numbered) (line : Numbered) (digits new : List ℕ) → IsJoined lines left digits → left ≡ line ∷ after
    → option_map (λ more. digits ++ more) (line_digits (words_of line.text)) ≡ Some new → IsJoined lines after new
joined_more lines left after line digits new j e d = record {
  all = j.all ∙ rw e (digits_then digits new (line_digits (words_of line.text)) (all_digits after) d);
}

none_of : (digits : List ℕ) (o p : Option (List ℕ)) → o ≡ None → option_map (λ rest. digits ++ rest) (option_and_then (λ front. option_map (λ rest. front ++ rest) p) o) ≡ None
none_of digits o p e = rw e refl

pub joined_bad : (lines left after : List Numbered) (line : Numbered) (digits : List ℕ) → IsJoined lines left digits → left ≡ line ∷ after
    → line_digits (words_of line.text) ≡ None → all_digits lines ≡ None
joined_bad lines left after line digits j e d = j.all ∙ rw e (none_of digits (line_digits (words_of line.text)) (all_digits after) d)

pub joined_all : (lines left : List Numbered) (digits : List ℕ) → IsJoined lines left digits → left ≡ [] → all_digits lines ≡ Some digits
joined_all lines left digits j e = j.all ∙ rw e (ap Some (append-nil digits))
