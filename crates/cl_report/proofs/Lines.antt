-- A line that was put behind what waits.
use Rattle.std.proofs.Common.{◌≡◌, ◌∙◌, ℕ, List, [], ◌∷◌, ◌++◌, ap, append_assoc}
use Rattle.cl_model.specs.Lines.{ended_line, words}

-- a number with its space, an answer and a line feed are the line of the answer
pub answer_put : (w w1 w2 w3 number said : List ℕ) → w1 ≡ w ++ (number ++ 32 ∷ []) → w2 ≡ w1 ++ said → w3 ≡ w2 ++ 10 ∷ []
    → w3 ≡ w ++ ended_line (words (number ∷ said ∷ []))
answer_put w w1 w2 w3 number said e1 e2 e3 =
    e3 ∙ ap (λ (f : List ℕ). f ++ 10 ∷ []) (e2 ∙ ap (λ (f : List ℕ). f ++ said) e1 ∙ append_assoc w (number ++ 32 ∷ []) said)
    ∙ append_assoc w ((number ++ 32 ∷ []) ++ said) (10 ∷ [])
    ∙ ap (λ (f : List ℕ). w ++ (f ++ 10 ∷ [])) (append_assoc number (32 ∷ []) said)
